use Rattle.std.proofs.Common.{sym, ◌∙◌, ap}
use Rattle.std.proofs.lemmas.Result.{on_ok_weaker}
use Rattle.rev_import.specs.Becoming.{first_second}
use Rattle.rev_intake.specs.Splitting.{is_due}
use Rattle.rev_intake.proofs.Splitting.{split_due, split_not_due}
use Rattle.rev_intake.proofs.intake.Intake.split_off.Goals as goal

pub returns-then-is_due-clause-split : goal.returns-then-is_due-clause-split
returns-then-is_due-clause-split g c =
    let due =
    ap (λ i. is_due i.split (first_second i.waiting)) (sym c.self.view_is)
    ∙ ap (λ f. is_due c.self.inside.split f) (sym c.first_second.ensures)
    ∙ sym c.is_due.ensures
    ∙ c.if-is_due.true in
    on_ok_weaker c.end_start.result (λ e. e ∙ sym (split_due _ due)) c.end_start.ensures.ended

pub returns-else-is_due-clause-split : goal.returns-else-is_due-clause-split
returns-else-is_due-clause-split g c =
    let due =
    ap (λ i. is_due i.split (first_second i.waiting)) (sym c.self.view_is)
    ∙ ap (λ f. is_due c.self.inside.split f) (sym c.first_second.ensures)
    ∙ sym c.is_due.ensures
    ∙ c.if-is_due.false in
    sym (split_not_due _ due)
