use Rattle.std.proofs.Common.{◌≡◌, ◌++◌, ◌∙◌, [], length, map, ap, sym, append-nil, arith}
use Rattle.rev_snapshot.proofs.Starting.{none_left}
use Rattle.rev_snapshot.proofs.order.place.Goals as goal

pub returns : goal.returns
returns g c =
    let none : length c.loop-item.item-iterator.rest.items ≡ 0 = omega (arith, c.in-None.ensures.steps.0, c.loop-item.item-iterator.rest.ok) in
    let over : c.loop-item.item-iterator.rest.items ≡ [] = none_left _ none in
    sym (append-nil _) ∙ ap (λ t. map (λ p. p.item) c.loop-item.placed.items ++ t) (sym over) ∙ c.loop-item.invariant
