-- How many moves a lookup takes, and what goes by it.
-- Rule of this project: memory for them is taken before the first.
use Rattle.std.specs.Prelude.{ℕ, cond, List, Option, None, Some}
use Rattle.rev_items.specs.Plain.{PlainItem}
use Rattle.rev_model.specs.State.{State, item_at, find}
use Rattle.rev_model.specs.declared.ChunkRef.{ChunkRef}
use Rattle.rev_model.specs.declared.Globals.{Globals}
use Rattle.rev_model.specs.Words.{is_dead}

-- four moves where the item is dead
abbrev pub dead_need : Globals → Option PlainItem → ℕ
dead_need g None = 0
dead_need g (Some i) = cond (is_dead g i) 4 0

-- the same by the chunk of the key
abbrev pub looked_need : State → Option ChunkRef → ℕ
looked_need s None = 0
looked_need s (Some x) = dead_need s.globals (item_at s x)

-- of a lookup
abbrev pub look_need : State → List ℕ → ℕ
look_need s k = looked_need s (find s k)

-- four moves where the key has an item
abbrev pub found_need : Option ChunkRef → ℕ
found_need None = 0
found_need (Some x) = 4

-- of a lookup and of what it found
abbrev pub removal_need : State → List ℕ → ℕ
removal_need s k = found_need (find s k)

-- five moves where the key leads to an item: it leaves, and is counted
abbrev pub evicted_need : Option ChunkRef → ℕ
evicted_need None = 0
evicted_need (Some x) = 5
