-- Whether a key is held alive, and whether its item is held dead.
-- Rule of this project: an item that is dead is held until something takes it out, and no look-up finds it.
use Rattle.std.specs.Prelude.{ℕ, Bool, false, not, List, Option, Some, None}
use Rattle.rev_items.specs.Plain.{PlainItem}
use Rattle.rev_items.specs.Rules.{is_past}
use Rattle.rev_model.specs.State.{State, find, item_at}
use Rattle.rev_model.specs.declared.ChunkRef.{ChunkRef}

-- the item, where there is one, is dead
abbrev pub is_dead_item : State → Option PlainItem → Bool
is_dead_item s None = false
is_dead_item s (Some i) = is_past s.globals.clock s.globals.flush_limit i.moment i.cas

-- the same of the item that a chunk holds
abbrev pub is_dead_at : State → Option ChunkRef → Bool
is_dead_at s None = false
is_dead_at s (Some x) = is_dead_item s (item_at s x)

-- the key's item is held, and dead
abbrev pub is_dead : State → List ℕ → Bool
is_dead s k = is_dead_at s (find s k)

-- the key is held, by its chunk, and its item is not dead
abbrev pub is_alive_at : State → Option ChunkRef → Bool
is_alive_at s None = false
is_alive_at s (Some x) = not (is_dead_item s (item_at s x))

abbrev pub is_alive : State → List ℕ → Bool
is_alive s k = is_alive_at s (find s k)
