use Rattle.std.proofs.Common.{◌≤◌, length}
use Rattle.rev_watch.specs.Held.{AreHigher}
use Rattle.rev_watch.proofs.held.place_near.Given as goal

abbrev pub invariant-lines : goal.invariant-lines
invariant-lines g l = (l.place ≤ length l.run.items) × AreHigher l.run.items l.number l.place

abbrev pub decreases-lines : goal.decreases-lines
decreases-lines g l = l.place
