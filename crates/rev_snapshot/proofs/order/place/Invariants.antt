use Rattle.std.proofs.Common.{◌≡◌, ◌++◌, map}
use Rattle.rev_snapshot.proofs.order.place.Given as goal

abbrev pub invariant-loop-item : goal.invariant-loop-item
invariant-loop-item g l = map (λ p. p.item) l.placed.items ++ l.item-iterator.rest.items ≡ l.fn.items.items
