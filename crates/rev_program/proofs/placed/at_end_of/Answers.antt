use Rattle.std.proofs.Common.{None}
use Rattle.rev_program.proofs.Places.{opens, opens_at}
use Rattle.rev_program.proofs.placed.at_end_of.Goals as goal

pub returns-then-is_whole : goal.returns-then-is_whole
returns-then-is_whole g c = opens _ None c.finished.result (opens_at _ None c.args.grown c.finished.result c.requires c.finished.ensures.session c.finished.ensures.log)
