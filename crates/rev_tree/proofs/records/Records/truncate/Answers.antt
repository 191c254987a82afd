use Rattle.std.proofs.Common.{rules, ◌≡◌, ◌+◌, ◌<◌, ◌≤◌, length, map, take, get_or, sym, subst, arith}
use Rattle.std.proofs.lemmas.List.{length-map, length-take, take-map, take_all}
use Rattle.rev_inverse.specs.Record.{plain_change}
use Rattle.rev_tree.specs.declared.records.Extent.{Extent}
use Rattle.rev_tree.specs.Cuts.{cut_by, Tiles}
use Rattle.rev_tree.proofs.Cuts.{length-cut, tiles_top, tiles_take, cut_take, found}
use Rattle.rev_tree.proofs.records.Records.truncate.Goals as goal

pub returns-then-n-len : goal.returns-then-n-len
returns-then-n-len g c =
    let es = c.self.inside.extents.items in
    let gs = map plain_change c.self.inside.changes.items in
    let few : length es ≤ c.args.n = search rules in
    rw (← c.self.view_is) (sym (take_all c.args.n (cut_by es gs) (subst (λ k. k ≤ c.args.n) (sym (length-cut es gs)) few)))

pub invariant_of-self : goal.invariant_of-self
invariant_of-self g c =
    let es = c.self.inside.extents.items in
    let items = c.self.inside.changes.items in
    let e : Extent = c.index.result.now in
    let lt : c.args.n < length es = search rules in
    let is : e ≡ get_or es c.args.n e = search rules in
    let changes : c.truncate.new.self.items ≡ take e.start items = search rules in
    let extents : c.truncate-2.new.self.items ≡ take c.args.n es = search rules in
    let f = found es items c.args.n e c.self.invariant lt is in
    let long : e.start ≡ length (take e.start items) = omega (arith, f.within, length-map items plain_change, length-take e.start items) in
    rw (extents, changes) (subst (λ n. Tiles 0 (take c.args.n es) n) long (tiles_take 0 es (length items) c.args.n e c.self.invariant lt is))

pub returns : goal.returns
returns g c =
    let es = c.self.inside.extents.items in
    let items = c.self.inside.changes.items in
    let e : Extent = c.index.result.now in
    let lt : c.args.n < length es = search rules in
    let is : e ≡ get_or es c.args.n e = search rules in
    let changes : c.truncate.new.self.items ≡ take e.start items = search rules in
    let extents : c.truncate-2.new.self.items ≡ take c.args.n es = search rules in
    let start : e.start ≡ 0 + e.start = omega arith in
    rw (extents, changes, ← c.self.view_is, ← take-map plain_change e.start items)
    (cut_take 0 es (map plain_change items) c.args.n e e.start (tiles_top es items c.self.invariant) lt is start)
