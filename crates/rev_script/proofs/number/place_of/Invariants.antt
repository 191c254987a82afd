use Rattle.std.proofs.Common.{◌≡◌, ◌≤◌, ◌-◌, take, length, false}
use Rattle.rev_script.specs.Number.{has}
use Rattle.rev_script.proofs.number.place_of.Given as goal

abbrev pub invariant-bytes : goal.invariant-bytes
invariant-bytes l = (l.i ≤ length l.w) × (has l.b (take l.i l.w) ≡ false)

abbrev pub decreases-bytes : goal.decreases-bytes
decreases-bytes l = length l.w - l.i
