-- The nodes on the way from the root to the current node, with their records.
-- Rule of this project: what may be read of a node on that way.
use Rattle.std.specs.Prelude.{◌≡◌, ℕ, ◌-◌, cond, nat_le, List, [], ◌∷◌, Some, slice_get}
use Rattle.rev_model.specs.Actor.{step}
use Rattle.rev_model.specs.Causes.{step_removals}
use Rattle.rev_model.specs.Move.{LeadsBack}
use Rattle.rev_inverse.specs.Telling.{TellsAll}
use Rattle.rev_tree.specs.Steps.{Step, Outcome, PlainRecord, Sound, outcome_of}
use Rattle.rev_tree.specs.Rows.{Row, RowsFall, row_of, at}
use Rattle.rev_tree.specs.Machine.{lineage}
use Rattle.rev_tree.specs.Positions.{SessionState}
use Rattle.rev_tree.specs.declared.junction.Junction.{Junction}

-- the position of the d-th node on the way to a position, from 1
abbrev pub cut : List Junction → ℕ → List Junction × ℕ
cut [] d = ([], d)
cut (p ∷ ps) d = cond (nat_le d p.taken) ([], d) (p ∷ (cut ps (d - p.taken)).0, (cut ps (d - p.taken)).1)

-- the d-th node on the way to the current node, from 1, was played by the step, which answered this; its record leads
-- back to its parent, and tells which keys the step took out of the index, each with its cause
pub record Trailed (s : SessionState) (d n : ℕ) (e : Step) (o : Outcome) (r : PlainRecord) : Type 0 where
  pub row : Row
  pub numbered : slice_get (lineage s.rows s.current) (d - 1) ≡ Some n
  pub known : row_of s.rows n ≡ Some row
  pub falls : RowsFall s.rows
  pub played : e ≡ row.step
  pub answered : o ≡ outcome_of (at s.root s.rows row.parent) e
  pub before : Sound (at s.root s.rows row.parent)
  pub sound : Sound (at s.root s.rows n)
  pub stepped : at s.root s.rows n ≡ (step (at s.root s.rows row.parent) e).0
  pub leads : LeadsBack r.moves (at s.root s.rows n) (at s.root s.rows row.parent)
  pub told : TellsAll r (at s.root s.rows n) (step_removals (at s.root s.rows row.parent) e)
