use Rattle.std.proofs.Common.{◌∙◌, ap}
use Rattle.rev_model.specs.Words.{share}
use Rattle.rev_model.specs.declared.Globals.{Globals}
use Rattle.rev_maintainer.proofs.Arms.{over_is}
use Rattle.rev_maintainer.proofs.reads.is_over.Goals as goal

pub returns : goal.returns
returns g c =
    over_is c.args.store.now c.args.class c.args.queue _ _ _ _ _ c.bytes-hot.ensures c.bytes-warm.ensures c.bytes-cold.ensures c.bytes-own.ensures
    (c.share_of-share.ensures ∙ ap (λ (z : Globals). share z.settings c.args.queue) c.globals.ensures)
