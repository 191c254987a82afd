use Rattle.std.proofs.Common.{arith, ap, sym, ◌∙◌, slice_get}
use Rattle.rev_tree.specs.Children.{put_in, firsts}
use Rattle.rev_tree.proofs.Children.{each_none, each_some, each_found, each_last, each_out}
use Rattle.rev_tree.proofs.branch.Branch.child.Goals.{in-Some+in-Err, in-None}
use Rattle.rev_tree.proofs.branch.Branch.child.Goals as goal

pub each-init : goal.each-init
each-init g c = (omega arith, ap (λ z. slice_get (put_in z (firsts c.args.here c.args.self.now.forks)) c.args.index) c.next_at-next.ensures)

pub returns-in-Ok : goal.returns-in-Ok
returns-in-Ok g c =
    let h = c.each-test.true in
    let e = c.fork_count.ensures in
    each_found c.args.self.now.forks c.each.fork c.args.here c.each.left c.in-Some.number c.in-Ok.found c.each.next _ (omega (arith, h, e)) (sym c.in-Some.is ∙ c.first_at.ensures) c.in-Ok.ensures.ok c.each.invariant.1

pub each-preserved : goal.each-preserved
each-preserved g c =
    let h = c.each-test.true in
    let e = c.fork_count.ensures in (
      omega (arith, h, e),
      elim c.match-first_at.branch [
        | in-Some+in-Err w ↦ rw (w.next-is, w.left-is) (each_some c.args.self.now.forks c.each.fork c.args.here c.each.left w.in-Err.count w.in-Some.number c.each.next w.in-Err.rest _ (omega (arith, h, e)) (sym w.in-Some.is ∙ c.first_at.ensures) w.in-Err.ensures.err c.each.invariant.1)
        | in-None w ↦ each_none c.args.self.now.forks c.each.fork c.args.here c.each.left c.match-first_at.left c.each.next c.match-first_at.next _ (omega (arith, h, e)) (sym w.in-None.is ∙ c.first_at.ensures) w.next-is w.left-is c.each.invariant.1
      ],
    )

pub returns-then-left-eq0 : goal.returns-then-left-eq0
returns-then-left-eq0 g c =
    let h = c.each-test.false in
    let e = c.fork_count.ensures in
    each_last c.args.self.now.forks c.each.fork c.args.here c.each.left c.each.next _ (omega (arith, h, e)) c.if-left-eq0.true c.each.invariant.1

pub returns-else-left-eq0 : goal.returns-else-left-eq0
returns-else-left-eq0 g c =
    let h = c.each-test.false in
    let e = c.fork_count.ensures in
    each_out c.args.self.now.forks c.each.fork c.args.here c.each.left c.each.next _ (omega (arith, h, e)) c.if-left-eq0.false c.each.invariant.1
