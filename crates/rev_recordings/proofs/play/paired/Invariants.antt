use Rattle.std.proofs.Common.{◌≡◌, ◌++◌}
use Rattle.std.specs.List.{zip}
use Rattle.rev_recordings.proofs.play.paired.Given as goal

-- with the hands and scripts that are left, the work is all of it
abbrev pub invariant-loop-hand : goal.invariant-loop-hand
invariant-loop-hand l = l.work.items ++ zip l.hand-iterator.rest.items l.scripts.items ≡ zip l.fn.hands.items l.fn.scripts.items
