use Rattle.std.proofs.lemmas.Result.{IfOk-from_err}
use Rattle.rev_plays.proofs.play.get_one.Goals as goal

pub returns-in_err-put_found-clause-reply : goal.returns-in_err-put_found-clause-reply
returns-in_err-put_found-clause-reply g c = IfOk-from_err c.from_residual.result _ c.from_residual.ensures.0

pub returns-in_err-put_found-clause-session : goal.returns-in_err-put_found-clause-session
returns-in_err-put_found-clause-session g c = IfOk-from_err c.from_residual.result _ c.from_residual.ensures.0

pub returns-in_err-put_found-clause-text : goal.returns-in_err-put_found-clause-text
returns-in_err-put_found-clause-text g c = IfOk-from_err c.from_residual.result _ c.from_residual.ensures.0

pub returns-in_err-reply-clause-reply : goal.returns-in_err-reply-clause-reply
returns-in_err-reply-clause-reply g c = IfOk-from_err c.from_residual-in_err-reply.result _ c.from_residual-in_err-reply.ensures.0

pub returns-in_err-reply-clause-session : goal.returns-in_err-reply-clause-session
returns-in_err-reply-clause-session g c = IfOk-from_err c.from_residual-in_err-reply.result _ c.from_residual-in_err-reply.ensures.0

pub returns-in_err-reply-clause-text : goal.returns-in_err-reply-clause-text
returns-in_err-reply-clause-text g c = IfOk-from_err c.from_residual-in_err-reply.result _ c.from_residual-in_err-reply.ensures.0
