use Rattle.std.proofs.Common.{◌+◌, map, arith, ap, ◌∙◌, add-one}
use Rattle.std.proofs.lemmas.List.{length-set}
use Rattle.rev_tree.proofs.Trims.{trim_step, trim_end, taken_whole}
use Rattle.rev_tree.specs.Places.{with_place}
use Rattle.rev_tree.proofs.branch.trim_forks.Goals as goal

pub loop-fork-preserved : goal.loop-fork-preserved
loop-fork-preserved g c =
    let t = c.loop-fork-test.true in
    let n = c.loop-fork.auto.fork-items in (
      length-set c.loop-fork.fork-items c.loop-fork.fork-index _ ∙ c.loop-fork.invariant.0,
      trim_step (λ f. with_place f.from f.branch.value) c.args.at c.loop-fork.fork-index (c.loop-fork.fork-index + 1) c.args.forks.now.items c.loop-fork.fork-items c.fork-item.result _ (add-one c.loop-fork.fork-index) (omega (arith, t, n)) c.loop-fork.invariant.0 c.loop-fork.invariant.1 c.trim.ensures,
    )

pub returns-clause-items : goal.returns-clause-items
returns-clause-items g c =
    let t = c.loop-fork-test.false in
    let n = c.loop-fork.auto.fork-items in
    let m = c.loop-fork.invariant.0 in
    ap (λ z. map (λ f. with_place f.from f.branch.value) z) (taken_whole (λ f. with_place f.from f.branch.value) c.args.forks.now.len c.args.forks.now.items c.loop-fork.fork-items _ c.args.forks.now.ok.0 m)
    ∙ trim_end (λ f. with_place f.from f.branch.value) c.args.at c.loop-fork.fork-index c.args.forks.now.items c.loop-fork.fork-items (omega (arith, t, n, m)) c.loop-fork.invariant.1
