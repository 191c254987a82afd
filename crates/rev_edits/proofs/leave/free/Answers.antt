use Rattle.rev_model.proofs.Drops.{free_put}
use Rattle.rev_edits.proofs.leave.free.Goals as goal

pub change-requires-clause-possible : goal.change-requires-clause-possible
change-requires-clause-possible g c = free_put c.args.store.now c.requires.well c.args.class c.args.chunk c.requires.loose
