use Rattle.std.proofs.Common.{◌∙◌}
use Rattle.rev_model.specs.declared.Queue.TheVariants.{Warm}
use Rattle.rev_maintainer.proofs.Arms.{active_is, warm_active}
use Rattle.rev_maintainer.proofs.pulls.pull_warm.Goals as goal

pub returns-then-item-clause-done : goal.returns-then-item-clause-done
returns-then-item-clause-done g c = λ i e.
    warm_active c.args.store.now c.args.class c.args.mode c.args.chunk i c.warm_up.new.store (active_is c.args.store.now c.args.class Warm c.args.mode c.args.chunk i e c.args.item c.requires.item ∙ c.if-item.true) (c.warm_up.ensures.state i e)

pub returns-then-item-clause-told : goal.returns-then-item-clause-told
returns-then-item-clause-told g c = λ i e. c.warm_up.ensures.told

pub returns-then-crowded-clause-told : goal.returns-then-crowded-clause-told
returns-then-crowded-clause-told g c = λ i e. c.cool.ensures.told
