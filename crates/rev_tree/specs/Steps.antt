-- What is known here of a step and of a record: nothing but their contracts.
-- Rule of this project: a record, turned, leads back, and turned again forward.
use Rattle.std.specs.Prelude.{◌≡◌, reverse}
pub use Rattle.rev_model.specs.State.{State}
pub use Rattle.rev_model.specs.Sound.{Sound}
pub use Rattle.rev_model.specs.Actor.{Step}
pub use Rattle.rev_inverse.specs.Record.{PlainRecord}
pub use Rattle.rev_model.specs.declared.Outcome.{Outcome}
use Rattle.rev_model.specs.Actor as actor
use Rattle.rev_model.specs.Causes.{step_removals}
use Rattle.rev_inverse.specs.Telling.{TellsAll}
use Rattle.rev_model.specs.Move as moves

-- the state that a step leaves
unfoldable pub next : State → Step → State
next s e = (actor.step s e).0

-- what the step answers
unfoldable pub outcome_of : State → Step → Outcome
outcome_of s e = (actor.step s e).1

-- a record may be turned at s: s is sound, and each move is possible in its turn
unfoldable pub Fits : PlainRecord → State → Type 0
Fits r s = Sound s × moves.Fits r.moves s

-- the state and the record that turning leaves
unfoldable pub turned : PlainRecord → State → State × PlainRecord
turned r s = ((moves.turned r.moves s).0, record r { moves = (moves.turned r.moves s).1; notes = reverse r.notes })

-- r turns t into s, and what it becomes turns s into t and gives r back
pub record Leads (r : PlainRecord) (t s : State) : Type 0 where
  pub fits : Fits r t
  pub there : (turned r t).0 ≡ s
  pub fits_back : Fits (turned r t).1 s
  pub back : turned (turned r t).1 s ≡ (t, r)

-- the record of a step that was played at s tells which keys the step took out of the index, each with its cause
unfoldable pub Recalls : PlainRecord → State → Step → Type 0
Recalls r s e = TellsAll r (next s e) (step_removals s e)

-- the record of a step that was played at s points back: it leads to s, and tells what the step took out of the index
pub record Undoes (r : PlainRecord) (s : State) (e : Step) : Type 0 where
  pub leads : Leads r (next s e) s
  pub recalls : Recalls r s e

-- the record of a step that was played at s points forward: it leads from s, and what it becomes tells that
pub record Redoes (r : PlainRecord) (s : State) (e : Step) : Type 0 where
  pub leads : Leads r s (next s e)
  pub recalls : Recalls (turned r s).1 s e
