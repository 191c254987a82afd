use Rattle.std.proofs.lemmas.Result.{IfOk-from_err}
use Rattle.rev_views.proofs.show.put_free.Goals as goal

pub returns-in_err-extend_from_slice : goal.returns-in_err-extend_from_slice
returns-in_err-extend_from_slice g c = IfOk-from_err c.from_residual.result _ c.from_residual.ensures.0

pub returns-in_err-put_chunks : goal.returns-in_err-put_chunks
returns-in_err-put_chunks g c = IfOk-from_err c.from_residual-in_err-put_chunks.result _ c.from_residual-in_err-put_chunks.ensures.0
