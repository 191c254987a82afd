-- A trip from one position to another: up to the last common position, and down from there.
-- Rule of this project: `:go` turns the records on that way and no others.
use Rattle.std.specs.Prelude.{◌≡◌, ℕ, ◌+◌, List}
use Rattle.std.proofs.Common.{suc}
use Rattle.rev_tree.specs.Positions.{Below, Proper}
use Rattle.rev_tree.specs.Paths.{IsOnWay}
use Rattle.rev_tree.specs.declared.junction.Junction.{Junction}

-- in n steps up, from positions that are not on the way to (t, h)
pub data Climb (t : List Junction) (h : ℕ) (x : List Junction) (i : ℕ) : List Junction → ℕ → ℕ → Type 0 where
  stay : Climb t h x i x i 0
  up : {w : List Junction} {k n : ℕ} (v : List Junction) (j : ℕ) → Climb t h x i w k n → (IsOnWay w k t h → ⊥) → Below v j w k → Proper v j → Climb t h x i v j (suc n)

-- in n steps down, by positions on the way to (t, h)
pub data Descent (t : List Junction) (h : ℕ) (x : List Junction) (i : ℕ) : List Junction → ℕ → ℕ → Type 0 where
  stand : Descent t h x i x i 0
  down : {w : List Junction} {k n : ℕ} (v : List Junction) (j : ℕ) → Descent t h x i w k n → Below w k v j → IsOnWay v j t h → Proper v j → Descent t h x i v j (suc n)

-- from (x, i) to (t, h) in n steps, over the last common position
pub record Trip (x : List Junction) (i : ℕ) (t : List Junction) (h n : ℕ) : Type 0 where
  pub meet : List Junction
  pub place : ℕ
  pub ups : ℕ
  pub downs : ℕ
  pub climb : Climb t h x i meet place ups
  pub descent : Descent t h meet place t h downs
  pub on : IsOnWay meet place t h
  pub steps : n ≡ ups + downs
