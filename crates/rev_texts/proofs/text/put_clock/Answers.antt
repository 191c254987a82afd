use Rattle.std.proofs.lemmas.Result.{IfOk-from_err}
use Rattle.rev_texts.proofs.text.put_clock.Goals as goal

pub returns-in_err-put_field : goal.returns-in_err-put_field
returns-in_err-put_field g c = IfOk-from_err c.from_residual.result _ c.from_residual.ensures.0

pub returns-in_err-put_field-2 : goal.returns-in_err-put_field-2
returns-in_err-put_field-2 g c = IfOk-from_err c.from_residual-in_err-put_field-2.result _ c.from_residual-in_err-put_field-2.ensures.0
