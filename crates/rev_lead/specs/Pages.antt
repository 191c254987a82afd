-- Page moves.
-- Rule of this project: a page of the one class goes to the other, and each other page stays with its class.
use Rattle.std.specs.Prelude.{◌≡◌, ◌<◌, ℕ, Option, None, Some, length, slice_set}
use Rattle.rev_model.specs.State.{State, owner_of}
use Rattle.rev_model.specs.declared.Mover.{Mover}
use Rattle.rev_lead.specs.Acts.{StageState, state_of_stage}

-- from the state s to t a page went from class a to class b, where 0 is the pool: each other page is of the class that
-- it was of, and no page is on its way
pub record PageMoved (s t : State) (a b : ℕ) : Type 0 where
  pub page : ℕ
  pub made : page < length s.owner
  pub source : owner_of s page ≡ a
  pub owners : t.owner ≡ slice_set s.owner page b
  pub ended : t.globals.mover ≡ None

-- since the state s, the page p of class a is on its way to class b, or it came there; the others stayed
pub data OnWay (s t : State) (a b p : ℕ) : Type 0 where
  on_way : (slot : ℕ) → t.owner ≡ s.owner → t.globals.mover ≡ Some (record { src = a; dst = b; page = p; slot = slot }) → OnWay s t a b p
  arrived : t.owner ≡ slice_set s.owner p b → t.globals.mover ≡ None → OnWay s t a b p

-- from the stage s to t, a page that is on its way stays so or comes to its class, and no other page goes
unfoldable pub Carries : StageState → StageState → Type 0
Carries s t = (r : State) (a b p : ℕ) → OnWay r (state_of_stage s) a b p → OnWay r (state_of_stage t) a b p
