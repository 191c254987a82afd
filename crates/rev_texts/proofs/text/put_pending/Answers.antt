use Rattle.std.proofs.lemmas.Result.{IfOk-from_err}
use Rattle.rev_texts.proofs.text.put_pending.Goals as goal

pub returns-in_err-extend_from_slice : goal.returns-in_err-extend_from_slice
returns-in_err-extend_from_slice g c = IfOk-from_err c.from_residual.result _ c.from_residual.ensures.0

pub returns-in_err-put_flush : goal.returns-in_err-put_flush
returns-in_err-put_flush g c = IfOk-from_err c.from_residual-in_err-put_flush.result _ c.from_residual-in_err-put_flush.ensures.0

pub returns-in_err-extend_from_slice-2 : goal.returns-in_err-extend_from_slice-2
returns-in_err-extend_from_slice-2 g c = IfOk-from_err c.from_residual-in_err-extend_from_slice-2.result _ c.from_residual-in_err-extend_from_slice-2.ensures.0

pub returns-in_err-put_mover : goal.returns-in_err-put_mover
returns-in_err-put_mover g c = IfOk-from_err c.from_residual-in_err-put_mover.result _ c.from_residual-in_err-put_mover.ensures.0
