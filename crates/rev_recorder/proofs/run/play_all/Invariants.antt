use Rattle.std.proofs.Common.{◌≤◌, length, map, Result}
use Rattle.rev_requests.specs.Plain.{plain_step}
use Rattle.rev_recorder.specs.declared.recorder.RecordFault.{RecordFault}
use Rattle.rev_recorder.specs.Hands.{PlainHand}
use Rattle.rev_recorder.specs.Running.{RunsTo}
use Rattle.rev_recorder.proofs.run.play_all.Given as goal

abbrev pub invariant-loop-step : goal.invariant-loop-step
invariant-loop-step g l = record {
  left : length l.steps.items ≤ l.count;
  runs : (result : Result (Unit {0}) RecordFault) (new : PlainHand) → RunsTo l.recorder.seal (map plain_step l.steps.items) l.hand result new → RunsTo l.recorder.seal (map plain_step l.fn.steps.items) l.fn.hand result new;
}

abbrev pub decreases-loop-step : goal.decreases-loop-step
decreases-loop-step g l = length l.steps.items
