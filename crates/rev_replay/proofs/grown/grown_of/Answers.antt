use Rattle.std.proofs.Common.{sym, subst}
use Rattle.rev_replay.specs.Seeking.{IsPlaceOf, plain_sought}
use Rattle.rev_replay.proofs.Places.{is_place}
use Rattle.rev_replay.proofs.grown.grown_of.Goals as goal

pub returns-in-Ok-clause-spot : goal.returns-in-Ok-clause-spot
returns-in-Ok-clause-spot g c = subst (λ spot. IsPlaceOf (plain_sought c.args.sought.now) spot) (sym c.place_of.ensures) (is_place (plain_sought c.args.sought.now) c.found.result)
