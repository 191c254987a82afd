use Rattle.std.proofs.Common.{◌≡◌, ◌++◌, map}
use Rattle.rev_requests.specs.Plain.{plain_step}
use Rattle.rev_script.specs.Steps.{get}
use Rattle.rev_recordings.proofs.steps.add_gets.Given as goal

-- with the gets of the keys that are left, the steps are those of the line
abbrev pub invariant-loop-key : goal.invariant-loop-key
invariant-loop-key l = map plain_step l.steps.items ++ map get l.key-iterator.rest.items ≡ map plain_step l.fn.steps.items ++ map get l.fn.keys.items
