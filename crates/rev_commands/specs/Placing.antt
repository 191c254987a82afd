-- A new item in the chunk that room gave: what the four verbs make of it.
-- Rule of this project: the order within set, add, replace and cas, and how many moves each makes.
use Rattle.std.specs.Prelude.{ℕ, ℤ, List, Option, None, Some}
use Rattle.rev_items.specs.Plain.{PlainItem}
use Rattle.rev_model.specs.State.{State}
use Rattle.rev_model.specs.Words.{linked, freed}
use Rattle.rev_model.specs.Pull.{room}
use Rattle.rev_model.specs.Client.{Verb, Sets, Adds, Replaces, Cases, lookup, removed, refusal, failed, stored_room}
use Rattle.rev_model.specs.declared.ChunkRef.{ChunkRef}
use Rattle.rev_model.specs.declared.Outcome.{Outcome}
use Rattle.rev_model.specs.declared.Outcome.TheVariants.{Stored, NoChunk}
use Rattle.rev_commands.specs.Looking.{removal_need}

-- the moves of a command that gets no class or no chunk
abbrev pub failed_need : Verb → State → List ℕ → ℕ
failed_need Sets s k = removal_need s k
failed_need Adds s k = 0
failed_need Replaces s k = 0
failed_need (Cases n) s k = 0

-- the item in its chunk, with the old one gone; or the chunk is free again
abbrev pub settled_item_by : ℕ → ChunkRef → PlainItem → State × Option (ChunkRef × PlainItem) → Option Outcome → State × Outcome
settled_item_by c x i (s, old) None = (linked c x i (removed old s), Stored)
settled_item_by c x i (s, old) (Some o) = (freed c x s, o)

-- the same by what the lookup found
abbrev pub settled_item : Verb → ℕ → ChunkRef → PlainItem → State × Option (ChunkRef × PlainItem) → State × Outcome
settled_item v c x i (s, old) = settled_item_by c x i (s, old) (refusal v old)

-- what is done with the chunk that room gives, or without one
abbrev pub placed : Verb → ℕ → PlainItem → State × Option ChunkRef → State × Outcome
placed v c i (s, None) = failed v i.key NoChunk s
placed v c i (s, Some x) = settled_item v c x i (lookup s i.key)

-- a new item of class c
unfoldable pub placed_in : State → Verb → ℕ → PlainItem → State × Outcome
placed_in s v c i = placed v c i (room s c)

-- a command whose item lies in class c
unfoldable pub stored_in : State → Verb → ℕ → List ℕ → List ℕ → ℕ → ℤ → State × Outcome
stored_in s v c k value flags e = stored_room v c k value flags e (room s c)
