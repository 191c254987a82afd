use Rattle.std.proofs.Common.{refl, sym, ◌∙◌}
use Rattle.rev_program.proofs.Tallies.{run_stopped, run_done, some_status}
use Rattle.rev_program.proofs.program.ended_run.Goals as goal

pub returns-in-Err-clause-ends : goal.returns-in-Err-clause-ends
returns-in-Err-clause-ends g c = run_stopped _ _ _ _ c.in-Err.stop _ c.ended.ensures.range c.ended.ensures.status c.ended.ensures.told

pub returns-in-Ok-clause-ends : goal.returns-in-Ok-clause-ends
returns-in-Ok-clause-ends g c = run_done _ _ _ _ c.in-Ok.summary c.count.ensures

pub returns-in-Ok-clause-done : goal.returns-in-Ok-clause-done
returns-in-Ok-clause-done g c = rw c.in-Ok.is (refl, c.count.ensures)

pub returns-in-Err-clause-stopped : goal.returns-in-Err-clause-stopped
returns-in-Err-clause-stopped g c = rw c.in-Err.is (λ e. some_status c.in-Err.stop (sym c.ended.ensures.status ∙ e), record { status_is = c.ended.ensures.status; text_is = c.ended.ensures.told })
