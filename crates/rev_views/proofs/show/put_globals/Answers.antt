use Rattle.std.proofs.lemmas.Result.{IfOk-from_err}
use Rattle.rev_views.proofs.show.put_globals.Goals as goal

pub returns-in_err-extend_from_slice : goal.returns-in_err-extend_from_slice
returns-in_err-extend_from_slice g c = IfOk-from_err c.from_residual.result _ c.from_residual.ensures.0

pub returns-in_err-put_clock : goal.returns-in_err-put_clock
returns-in_err-put_clock g c = IfOk-from_err c.from_residual-in_err-put_clock.result _ c.from_residual-in_err-put_clock.ensures.0

pub returns-in_err-put_pending : goal.returns-in_err-put_pending
returns-in_err-put_pending g c = IfOk-from_err c.from_residual-in_err-put_pending.result _ c.from_residual-in_err-put_pending.ensures.0
