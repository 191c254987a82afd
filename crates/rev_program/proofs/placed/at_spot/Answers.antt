use Rattle.std.proofs.Common.{Some}
use Rattle.rev_program.proofs.Places.{opens_at}
use Rattle.rev_program.proofs.placed.at_spot.Goals as goal

pub returns-then-serves : goal.returns-then-serves
returns-then-serves g c = opens_at _ (Some c.args.spot.step) c.args.grown c.stand.result c.requires c.stand.ensures.session c.stand.ensures.log
