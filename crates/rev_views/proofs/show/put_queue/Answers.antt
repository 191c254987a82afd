use Rattle.std.proofs.lemmas.Result.{IfOk-from_err}
use Rattle.rev_views.proofs.show.put_queue.Goals as goal

pub returns-in_err-extend_from_slice : goal.returns-in_err-extend_from_slice
returns-in_err-extend_from_slice g c = IfOk-from_err c.from_residual.result _ c.from_residual.ensures.0

pub returns-in_err-put_limited : goal.returns-in_err-put_limited
returns-in_err-put_limited g c = IfOk-from_err c.from_residual-in_err-put_limited.result _ c.from_residual-in_err-put_limited.ensures.0
