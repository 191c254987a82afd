use Rattle.std.proofs.Common.{◌≡◌, ◌≤◌, ◌-◌, map, None}
use Rattle.rev_requests.specs.Plain.{plain_step}
use Rattle.rev_recordings.proofs.Reading.{IsSoFar}
use Rattle.rev_recordings.proofs.steps.gather.Given as goal

abbrev pub invariant-lines : goal.invariant-lines
invariant-lines g l = (l.lines.fault ≡ None) × (l.count ≤ l.lines.input.bytes.given) × (l.lines.input.bytes.given ≤ 4294967296)
    × IsSoFar l.fn.lines.input.dialect l.fn.lines.input l.lines.input (map plain_step l.steps.items) l.count

abbrev pub decreases-lines : goal.decreases-lines
decreases-lines g l = 4294967296 - l.lines.input.bytes.given
