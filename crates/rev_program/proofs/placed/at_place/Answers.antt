use Rattle.std.proofs.lemmas.Result.{IfOk-weaker}
use Rattle.rev_replay.specs.Seeking.{plain_sought}
use Rattle.rev_program.proofs.placed.at_place.Goals as goal

pub returns : goal.returns
returns g c =
    IfOk-weaker c.found_in.result _ _ (λ placed h. record { sought = plain_sought c.in_ok-sought.sought; looks_for = c.in_ok-sought.ensures; spot = c.in-Ok.grown.spot; is_place = c.in-Ok.ensures.spot; settled = h }) c.found_in.ensures
