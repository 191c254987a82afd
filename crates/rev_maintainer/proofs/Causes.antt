-- What the rounds of room take out of the index.
use Rattle.std.specs.Prelude.{ℕ, ◌≡◌, ◌-◌, [], ◌++◌, None, Some, zero, suc, refl}
use Rattle.std.proofs.Common.{◌∙◌, ap, arith}
use Rattle.rev_model.specs.State.{State}
use Rattle.rev_model.specs.Pull.{given, squeezed}
use Rattle.rev_model.specs.Causes.{none_or, squeeze_removals, room_removals_by}
use Rattle.rev_model.specs.declared.ChunkRef.{ChunkRef}

-- a round that got no chunk, and those behind it
pub later_removals : (s t : State) (c k : ℕ) → (k ≡ 0 → ⊥) → None ≡ given s c → t ≡ squeezed s c → squeeze_removals s c ++ room_removals_by (k - 1) t c ≡ room_removals_by k s c
later_removals s t c zero pos none next = absurd (pos refl)
later_removals s t c (suc k) pos none next =
    let less : suc k - 1 ≡ k = omega arith in
    ap (λ n. squeeze_removals s c ++ room_removals_by n t c) less
    ∙ ap (λ u. squeeze_removals s c ++ room_removals_by k u c) next
    ∙ ap (λ o. none_or o (squeeze_removals s c ++ room_removals_by k (squeezed s c) c)) none

-- a round that got a chunk removes nothing
pub given_removals : (s t : State) (c k : ℕ) (x : ChunkRef) → (k ≡ 0 → ⊥) → Some (t, x) ≡ given s c → [] ≡ room_removals_by k s c
given_removals s t c zero x pos e = absurd (pos refl)
given_removals s t c (suc k) x pos e = ap (λ o. none_or o (squeeze_removals s c ++ room_removals_by k (squeezed s c) c)) e
