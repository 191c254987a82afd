-- The slots of a page that goes to a class.
-- Rule of this project: what a page takes along, and how many moves its way takes.
use Rattle.std.specs.Prelude.{ℕ, ◌≡◌, ◌<◌, Option, None, Some}
use Rattle.rev_model.specs.State.{State, per_page}

-- a class takes the slots of its pages, and the pool none
abbrev pub AreParts : State → ℕ → Option ℕ → Type 0
AreParts s c None = c ≡ 0
AreParts s c (Some n) = (0 < c) × (n ≡ per_page s.fixed c)

-- how many moves the page's way takes
abbrev pub parts_moves : Option ℕ → ℕ
parts_moves None = 2
parts_moves (Some n) = 3
