-- What lies on a shelf.
-- Rule of this project: a page's slots that are out of the store lie on a shelf of its change.
use Rattle.std.specs.Prelude.{ℕ, ◌≡◌, Option, None, Some}
use Rattle.rev_inverse.specs.declared.parts.Slots.{Slots}

-- how many slots the parts on a shelf have
abbrev pub slots_in : {A : Type 0} → Option (Slots A) → ℕ
slots_in None = 0
slots_in (Some s) = s.pages

-- a page's slots lie on it, as many in each part
abbrev pub AreSlots : {A : Type 0} → Option (Slots A) → Type 0
AreSlots None = ⊥
AreSlots (Some s) = (s.queues ≡ s.pages) × (s.index ≡ s.pages)
