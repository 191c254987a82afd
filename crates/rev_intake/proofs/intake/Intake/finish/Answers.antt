use Rattle.std.proofs.Common.{refl, ap, ◌∙◌}
use Rattle.rev_intake.proofs.Passing.{all_ok, all_sent}
use Rattle.rev_intake.proofs.Taken.{log_ended}
use Rattle.rev_intake.proofs.intake.Intake.finish.Goals as goal

pub returns-clause-ok : goal.returns-clause-ok
returns-clause-ok g c =
    all_ok c.send.result
    (λ s f r. log_ended _ _ _ _ _ _ _ refl (all_sent c.in_ok-empty_window.ensures.passes c.in_ok-empty_import.ensures.passes s f)
    (ap (λ i. i.counts) r ∙ c.in_ok-empty_import.ensures.counts ∙ c.in_ok-empty_window.ensures.counts))
    c.send.ensures.sent c.send.ensures.none_failed c.send.ensures.rest
