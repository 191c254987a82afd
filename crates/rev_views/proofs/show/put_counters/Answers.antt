use Rattle.std.proofs.lemmas.Result.{IfOk-from_err}
use Rattle.rev_views.proofs.show.put_counters.Goals as goal

pub returns-in_err-extend_from_slice : goal.returns-in_err-extend_from_slice
returns-in_err-extend_from_slice g c = IfOk-from_err c.from_residual.result _ c.from_residual.ensures.0

pub returns-in_err-put_removals : goal.returns-in_err-put_removals
returns-in_err-put_removals g c = IfOk-from_err c.from_residual-in_err-put_removals.result _ c.from_residual-in_err-put_removals.ensures.0

pub returns-in_err-put_moves : goal.returns-in_err-put_moves
returns-in_err-put_moves g c = IfOk-from_err c.from_residual-in_err-put_moves.result _ c.from_residual-in_err-put_moves.ensures.0
