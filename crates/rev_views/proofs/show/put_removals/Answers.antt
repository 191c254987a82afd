use Rattle.std.proofs.lemmas.Result.{IfOk-from_err}
use Rattle.rev_views.proofs.show.put_removals.Goals as goal

pub returns-in_err-put_counter : goal.returns-in_err-put_counter
returns-in_err-put_counter g c = IfOk-from_err c.from_residual.result _ c.from_residual.ensures.0

pub returns-in_err-put_counter-2 : goal.returns-in_err-put_counter-2
returns-in_err-put_counter-2 g c = IfOk-from_err c.from_residual-in_err-put_counter-2.result _ c.from_residual-in_err-put_counter-2.ensures.0

pub returns-in_err-put_counter-3 : goal.returns-in_err-put_counter-3
returns-in_err-put_counter-3 g c = IfOk-from_err c.from_residual-in_err-put_counter-3.result _ c.from_residual-in_err-put_counter-3.ensures.0
