use Rattle.std.proofs.lemmas.Result.{on_ok_weaker}
use Rattle.rev_intake.proofs.Passing.{taken_behind}
use Rattle.rev_intake.proofs.Taken.{rests_then}
use Rattle.rev_intake.proofs.intake.Intake.take.Goals as goal

pub returns-clause-passes : goal.returns-clause-passes
returns-clause-passes g c =
    on_ok_weaker c.take_behind.result (λ p. taken_behind _ c.in_ok-split_off.ensures.waiting c.in_ok-split_off.ensures.sends p) c.take_behind.ensures.passes

pub returns-clause-rest : goal.returns-clause-rest
returns-clause-rest g c = on_ok_weaker c.take_behind.result (λ r. rests_then c.in_ok-split_off.ensures.rest r) c.take_behind.ensures.rest
