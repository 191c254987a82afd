use Rattle.std.proofs.Common.{◌≡◌, length}
use Rattle.rev_pages.specs.Opened.{AreEmpty}
use Rattle.rev_pages.proofs.making.empty_ends.Given as goal

abbrev pub invariant-loop-class : goal.invariant-loop-class
invariant-loop-class g l = record { count : length l.ends.items ≡ l.class; empty : AreEmpty l.ends.items }
