use Rattle.rev_model.proofs.Drops.{keeps-touch}
use Rattle.rev_edits.proofs.alter.retouch.Goals as goal

pub change-requires-clause-possible : goal.change-requires-clause-possible
change-requires-clause-possible g c = keeps-touch c.args.store.now c.requires.well c.args.chunk c.args.next c.requires.item.0 c.requires.item.1
