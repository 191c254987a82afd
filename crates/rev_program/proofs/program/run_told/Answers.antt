use Rattle.std.proofs.Common.{inl}
use Rattle.std.proofs.lemmas.Result.{IfOk-weaker, IfErr-weaker}
use Rattle.rev_program.proofs.Running.{keep, stops_named}
use Rattle.rev_program.proofs.program.run_told.Goals as goal

pub returns-in-Some-clause-err : goal.returns-in-Some-clause-err
returns-in-Some-clause-err g c = inl (keep _)

pub returns-in-Err-clause-err : goal.returns-in-Err-clause-err
returns-in-Err-clause-err g c = inl (keep _)

pub returns-in-Ok-clause-ok : goal.returns-in-Ok-clause-ok
returns-in-Ok-clause-ok g c =
    IfOk-weaker c.run_sound.result _ _ (λ sum h. record { files = c.in-Ok.starts.items; names_are = c.in-Ok.ensures.names; answers = h }) c.run_sound.ensures.ok

pub returns-in-Ok-clause-err : goal.returns-in-Ok-clause-err
returns-in-Ok-clause-err g c =
    IfErr-weaker c.run_sound.result _ _ (λ stop h. stops_named _ _ _ _ _ _ _ _ _ stop c.in-Ok.ensures.names h) c.run_sound.ensures.err
