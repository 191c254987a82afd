use Rattle.std.proofs.lemmas.Result.{IfOk-from_err}
use Rattle.rev_views.proofs.show.put_figures.Goals as goal

pub returns-in_err-put_field : goal.returns-in_err-put_field
returns-in_err-put_field g c = IfOk-from_err c.from_residual.result _ c.from_residual.ensures.0

pub returns-in_err-put_field-2 : goal.returns-in_err-put_field-2
returns-in_err-put_field-2 g c = IfOk-from_err c.from_residual-in_err-put_field-2.result _ c.from_residual-in_err-put_field-2.ensures.0

pub returns-in_err-put_field-3 : goal.returns-in_err-put_field-3
returns-in_err-put_field-3 g c = IfOk-from_err c.from_residual-in_err-put_field-3.result _ c.from_residual-in_err-put_field-3.ensures.0

pub returns-in_err-put_field-4 : goal.returns-in_err-put_field-4
returns-in_err-put_field-4 g c = IfOk-from_err c.from_residual-in_err-put_field-4.result _ c.from_residual-in_err-put_field-4.ensures.0

pub returns-in_err-extend_from_slice : goal.returns-in_err-extend_from_slice
returns-in_err-extend_from_slice g c = IfOk-from_err c.from_residual-in_err-extend_from_slice.result _ c.from_residual-in_err-extend_from_slice.ensures.0

pub returns-in_err-extend_from_slice-2 : goal.returns-in_err-extend_from_slice-2
returns-in_err-extend_from_slice-2 g c = IfOk-from_err c.from_residual-in_err-extend_from_slice-2.result _ c.from_residual-in_err-extend_from_slice-2.ensures.0
