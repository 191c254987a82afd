use Rattle.std.proofs.Common.{◌≡◌, ◌≤◌, ◌+◌, ℕ}
use Rattle.rev_model.specs.State.{State}
use Rattle.rev_requests.specs.Plain.{plain_step}
use Rattle.rev_explain.proofs.Departing.{removals_from}
use Rattle.rev_whatif.proofs.Evictions.{lost}
use Rattle.rev_whatif.proofs.trial.count_evicted.Given as goal

-- those of the changes before the i-th are counted
abbrev pub invariant-loop-i : goal.invariant-loop-i
invariant-loop-i g l = record {
  told : (n : ℕ) (after : State) → l.count + lost n (plain_step l.step) l.outcome (removals_from l.trace.changes l.i after) ≡ lost n (plain_step l.step) l.outcome (removals_from l.trace.changes 0 after);
  few : l.count ≤ l.i;
}
