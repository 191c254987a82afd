use Rattle.std.proofs.Common.{rules, ◌≡◌, [], inl, inr, refl}
use Rattle.rev_program.proofs.starts.play_files.Goals as goal

pub returns-clause-ok : goal.returns-clause-ok
returns-clause-ok g c =
    let none : c.loop-name.rest.items ≡ [] = search rules in
    c.loop-name.invariant.lead c.loop-name.session (rw none refl)

pub returns-in-Err-clause-err : goal.returns-in-Err-clause-err
returns-in-Err-clause-err g c =
    let e = c.in-Some.ensures.items in
    c.loop-name.invariant.halt c.in-Err.stop (rw e (inl c.in-Err.ensures.err))

pub loop-name-preserved : goal.loop-name-preserved
loop-name-preserved g c =
    let e = c.in-Some.ensures.items in
    record {
      lead = λ t more. c.loop-name.invariant.lead t (rw e (c.play_file.new.session, c.in-Ok.ensures.ok, more));
      halt = λ stop more. c.loop-name.invariant.halt stop (rw e (inr (c.play_file.new.session, c.in-Ok.ensures.ok, more)));
    }
