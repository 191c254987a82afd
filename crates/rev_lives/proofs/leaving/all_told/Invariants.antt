use Rattle.std.proofs.Common.{◌≡◌, ◌++◌, drop, map, None, All}
use Rattle.rev_life.specs.Leaving.{plain_leaving}
use Rattle.rev_lives.specs.Leaving.{with_class, departed, HasClass}
use Rattle.rev_lives.proofs.leaving.all_told.Given as goal

-- what is told, with what is left to tell, is all, and the classes are right
abbrev pub invariant-loop-departure : goal.invariant-loop-departure
invariant-loop-departure g l =
    (map (λ d. with_class None (plain_leaving d)) l.told.items ++ departed l.heard (drop l.departure-index l.gone) ≡ departed l.heard l.gone) × All (HasClass l.heard) l.told.items
