use Rattle.std.proofs.Common.{◌∙◌}
use Rattle.std.proofs.lemmas.Result.{IfOk-weaker}
use Rattle.rev_program.proofs.placed.stand.Goals as goal

pub returns-clause-session : goal.returns-clause-session
returns-clause-session g = IfOk-weaker g.finished.result _ _ (λ opened h. h ∙ g.go_behind.ensures.session) g.finished.ensures.session

pub returns-clause-log : goal.returns-clause-log
returns-clause-log g = IfOk-weaker g.finished.result _ _ (λ opened h. h ∙ g.go_behind.ensures.notes) g.finished.ensures.log
