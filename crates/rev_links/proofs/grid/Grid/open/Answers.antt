use Rattle.std.proofs.lemmas.Grind.{common_steps}
use Rattle.std.proofs.Common.{add-one, rules, arith}
use Rattle.rev_links.proofs.Grids.{pushed}
use Rattle.rev_links.proofs.grid.Grid.open.Goals as goal

pub loop-preserved : goal.loop-preserved
loop-preserved g c = rw (add-one, c.in_ok-push.ensures.items) (pushed _ (λ v. v.items) c.loop.counter c.loop.invariant)

pub loop-init : goal.loop-init
loop-init g c = search rules steps 1500000

pub returns : goal.returns
returns g c = grind (arith, common_steps)
