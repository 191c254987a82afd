use Rattle.std.proofs.lemmas.Result.{IfOk-from_err}
use Rattle.rev_texts.proofs.text.put_free_chunk.Goals as goal

pub returns-in_err-extend_from_slice : goal.returns-in_err-extend_from_slice
returns-in_err-extend_from_slice g c = IfOk-from_err c.from_residual.result _ c.from_residual.ensures.0
