use Rattle.std.proofs.Common.{◌∙◌}
use Rattle.rev_model.specs.declared.Queue.TheVariants.{Hot}
use Rattle.rev_maintainer.proofs.Arms.{active_is, hot_active}
use Rattle.rev_maintainer.proofs.pulls.pull_hot.Goals as goal

pub returns-then-item-clause-done : goal.returns-then-item-clause-done
returns-then-item-clause-done g c = λ i e.
    hot_active c.args.store.now c.args.class c.args.mode c.args.chunk i c.warm_up.new.store (active_is c.args.store.now c.args.class Hot c.args.mode c.args.chunk i e c.args.item c.requires.item ∙ c.if-item.true) (c.warm_up.ensures.state i e)

pub returns-then-item-clause-told : goal.returns-then-item-clause-told
returns-then-item-clause-told g c = λ i e. c.warm_up.ensures.told
