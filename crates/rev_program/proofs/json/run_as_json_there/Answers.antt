use Rattle.std.proofs.Common.{inl, inr, refl}
use Rattle.std.proofs.lemmas.Result.{IfOk-weaker, IfErr-weaker}
use Rattle.rev_program.proofs.json.run_as_json_there.Goals as goal

pub returns-in-Err-clause-err : goal.returns-in-Err-clause-err
returns-in-Err-clause-err g c = inl (refl, c.in-Err.ensures.err)

pub returns-in-Ok-clause-ok : goal.returns-in-Ok-clause-ok
returns-in-Ok-clause-ok g c =
    IfOk-weaker c.run_as_json_on.result _ _ (λ sum h. record { m = c.in-Ok.session; starts_are = c.in-Ok.ensures.ok; run = rw c.none-log.ensures at h }) c.run_as_json_on.ensures.ok

pub returns-in-Ok-clause-err : goal.returns-in-Ok-clause-err
returns-in-Ok-clause-err g c =
    IfErr-weaker c.run_as_json_on.result _ _ (λ stop h. inr (record { m = c.in-Ok.session; starts_are = c.in-Ok.ensures.ok; stopped = rw c.none-log.ensures at h })) c.run_as_json_on.ensures.err
