use Rattle.std.proofs.Common.{◌≡◌, length}
use Rattle.rev_index.specs.Index.{AllNone}
use Rattle.rev_index.proofs.making.no_items.Given as goal

abbrev pub invariant-loop : goal.invariant-loop
invariant-loop g l = record { count : length l.items.items ≡ l.counter; none : AllNone l.items.items }
