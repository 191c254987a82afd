-- Data that no class holds.
use Rattle.std.specs.Prelude.{ℕ, ◌≡◌, ◌+◌, ◌<◌, ◌≤◌, nat_le, List, [], ◌∷◌, None, length, slice_index, suc, refl}
use Rattle.std.proofs.Common.{sym, arith, inl, inr}
use Rattle.std.proofs.lemmas.Bool.{cases_Bool, leb-true}
use Rattle.rev_items.specs.Rules.{footprint}
use Rattle.rev_classes.specs.Sizes.{class_from}
use Rattle.rev_model.specs.State.{Fixed}
use Rattle.rev_model.specs.Words.{class_of}
use Rattle.rev_model.specs.Sound.{TableSound}

none_from : (c : ℕ) (zs : List ℕ) (n page : ℕ) → ((i : ℕ) → i < length zs → slice_index zs i ≤ page) → page < n → class_from c zs n ≡ None
none_from c [] n page most lt = refl
none_from c (z ∷ zs) n page most lt = elim (cases_Bool (nat_le n z)) [
  | inl e ↦ let small : n ≤ z = leb-true n z e in let first : z ≤ page = most 0 (omega arith) in absurd (omega (arith, small, first, lt))
  | inr e ↦ rw e (none_from (c + 1) zs n page (λ i h. most (suc i) (omega (arith, h))) lt)
]

pub too_large : (f : Fixed) → TableSound f → (k flags n : ℕ) → 1048576 < n → None ≡ class_of f (footprint k flags n)
too_large f table k flags n lt = sym (none_from 1 f.sizes (footprint k flags n) f.page_size table.sizes.most (omega (arith, lt, table.sizes.page_most)))
