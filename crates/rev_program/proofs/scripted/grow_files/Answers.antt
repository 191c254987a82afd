use Rattle.std.proofs.Common.{rules, ◌≡◌, inl, inr, [], ◌++◌, None, Some, refl}
use Rattle.rev_rules.proofs.Keeping.{goes_none, goes_more}
use Rattle.rev_program.proofs.scripted.grow_files.Goals as goal

pub returns : goal.returns
returns g c =
    let none : c.loop-name.rest.items ≡ [] = search rules in
    c.loop-name.invariant c.loop-name.growing [] None (rw none (refl, refl)) (goes_none c.loop-name.growing)

pub returns-in-Ok-Some : goal.returns-in-Ok-Some
returns-in-Ok-Some g c =
    let e = c.in-Some.ensures.items in
    let h = rw c.in-Ok-Some.field-0-is at c.in-Ok-Some.ensures in
    c.loop-name.invariant c.grow_file.new.growing h.0 (Some c.in-Ok-Some.full) (rw e (inr (c.in-Ok-Some.full, refl, h.1))) h.2

pub loop-name-preserved : goal.loop-name-preserved
loop-name-preserved g c =
    let e = c.in-Some.ensures.items in
    let h = rw c.in-Ok-None.field-0-is at c.in-Ok-None.ensures in
    λ t steps full files goes.
    c.loop-name.invariant t (h.0 ++ steps) full (rw e (inl (h.0, steps, h.1, files, refl))) (goes_more c.loop-name.growing c.grow_file.new.growing t h.0 steps h.2 goes)
