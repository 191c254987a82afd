-- An item of a class takes the place of the key's item: what is done with the chunk that room gives, or without one.
-- Rule of this project: it is done as a replace does it, but for what is answered.
use Rattle.std.specs.Prelude.{ℕ, List}
use Rattle.rev_model.specs.State.{State}
use Rattle.rev_model.specs.declared.Outcome.{Outcome}
use Rattle.rev_model.specs.declared.Outcome.TheVariants.{Stored, NotStored}
use Rattle.rev_model.specs.Client.{rewritten_room}
use Rattle.rev_model.specs.Pull.{room}

-- room for the new item, and then what is done with the chunk
unfoldable pub rewritten_in : State → ℕ → List ℕ → List ℕ → ℕ → ℕ → Outcome → Outcome → State × Outcome
rewritten_in s c k value flags m gone done = rewritten_room c k value flags m gone done (room s c)

-- ---- as replace does it, but for what is answered

-- `done` for a replace that stores, and `gone` for one that finds nothing
abbrev pub named : Outcome → Outcome → Outcome → Outcome
named gone done Stored = done
named gone done NotStored = gone
named gone done o = o
