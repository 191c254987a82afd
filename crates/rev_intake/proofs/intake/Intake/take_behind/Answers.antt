use Rattle.std.proofs.Common.{ap}
use Rattle.rev_intake.proofs.Passing.{both_ok, taken}
use Rattle.rev_intake.proofs.intake.Intake.take_behind.Goals as goal

pub returns-clause-passes : goal.returns-clause-passes
returns-clause-passes g c =
    let seen = c.self.view_is in
    both_ok c.send_piece.result (λ s r. taken _ (ap (λ i. i.waiting) seen) (ap (λ i. i.waits) seen) (ap (λ i. i.waiting) r) c.in_ok-take.ensures s) c.send_piece.ensures.sends
    c.send_piece.ensures.rest
