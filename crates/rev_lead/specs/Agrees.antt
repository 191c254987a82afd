-- What a store holds of a key, and when a state agrees with what a line of a log says.
-- Rule of this project: a key is found just where it is held and its item is not dead.
use Rattle.std.specs.Prelude.{ℕ, Bool, true, false, ◌&&◌, ◌==◌, not, List, Option, None, Some}
use Rattle.rev_items.specs.Plain.{PlainItem}
use Rattle.rev_model.specs.State.{State, find, item_at, owner_of}
use Rattle.rev_model.specs.Words.{is_dead, header_of}
use Rattle.rev_model.specs.declared.ChunkRef.{ChunkRef}
use Rattle.rev_model.specs.declared.Outcome.{Outcome}
use Rattle.rev_model.specs.declared.Outcome.TheVariants as outcomes
use Rattle.rev_watch.specs.declared.event.StoreOutcome.{StoreOutcome}
use Rattle.rev_watch.specs.declared.event.StoreOutcome.TheVariants as logged
use Rattle.rev_lead.specs.declared.holding.Holding.{Holding}

-- what the chunk holds: where it is, and whether a look-up finds it
abbrev pub holding_in : State → ChunkRef → Option PlainItem → Option Holding
holding_in s x None = None
holding_in s x (Some i) = Some (record { chunk = x; class = owner_of s x.page; header = header_of i; alive = not (is_dead s.globals i) })

-- the same by the chunk of a key
abbrev pub holding_at : State → Option ChunkRef → Option Holding
holding_at s None = None
holding_at s (Some x) = holding_in s x (item_at s x)

-- what is held of the key
unfoldable pub holding_of : State → List ℕ → Option Holding
holding_of s k = holding_at s (find s k)

-- it is held, and not dead
abbrev pub lives : Option Holding → Bool
lives None = false
lives (Some h) = h.alive

-- a look-up finds the key
abbrev pub is_alive : State → List ℕ → Bool
is_alive s k = lives (holding_of s k)

-- it is held in this class
abbrev pub is_of : ℕ → Option Holding → Bool
is_of c None = false
is_of c (Some h) = h.class == c

-- the key is held in this class
abbrev pub is_in_class : State → List ℕ → ℕ → Bool
is_in_class s k c = is_of c (holding_of s k)

-- a look-up finds the key in this class
abbrev pub is_found : State → List ℕ → ℕ → Bool
is_found s k c = is_alive s k && is_in_class s k c

-- the answer is that the item was stored
abbrev pub is_stored : Outcome → Bool
is_stored outcomes.Stored = true
is_stored o = false

-- the answer is that it was not
abbrev pub is_not_stored : Outcome → Bool
is_not_stored outcomes.NotStored = true
is_not_stored o = false

-- a storage command was answered as the line says, and where it stored, the key is held in the class of the line
abbrev pub is_stored_as : State → List ℕ → ℕ → StoreOutcome → Outcome → Bool
is_stored_as s k c logged.Stored o = is_stored o && is_in_class s k c
is_stored_as s k c l o = is_not_stored o
