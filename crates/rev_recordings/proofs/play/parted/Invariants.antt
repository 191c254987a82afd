use Rattle.std.proofs.Common.{◌≡◌, ◌++◌, length, map, All}
use Rattle.rev_recordings.specs.Rows.{ends_text, IsEnd}
use Rattle.rev_recordings.proofs.play.parted.Given as goal

-- with the players that are left, lines and hands are those of all
abbrev pub invariant-loop-hand : goal.invariant-loop-hand
invariant-loop-hand l = record {
  lines : l.stopped.items ++ ends_text l.rest.items ≡ l.fn.stopped.items ++ ends_text l.fn.done.items;
  hands : l.hands.items ++ map (λ d. d.0) l.rest.items ≡ map (λ d. d.0) l.fn.done.items;
  ends : All (λ d. IsEnd d.1) l.rest.items → All (λ d. IsEnd d.1) l.fn.done.items;
}

abbrev pub decreases-loop-hand : goal.decreases-loop-hand
decreases-loop-hand l = length l.rest.items
