use Rattle.std.proofs.Common.{Some}
use Rattle.rev_program.proofs.Places.{opens, opens_at}
use Rattle.rev_program.proofs.placed.read_again.Goals as goal

pub returns-clause-there : goal.returns-clause-there
returns-clause-there g c = opens_at _ (Some c.args.spot.step) c.in-Ok.grown c.stand.result c.in-Ok.ensures.grown c.stand.ensures.session c.stand.ensures.log

pub returns-clause-opens : goal.returns-clause-opens
returns-clause-opens g c =
    opens _ (Some c.args.spot.step) c.stand.result (opens_at _ (Some c.args.spot.step) c.in-Ok.grown c.stand.result c.in-Ok.ensures.grown c.stand.ensures.session c.stand.ensures.log)
