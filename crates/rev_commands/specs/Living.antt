-- The live item of a key.
-- Rule of memcached: a dead item is not found.
use Rattle.std.specs.Prelude.{ℕ, List, Option}
use Rattle.std.specs.Option.{option_map}
use Rattle.rev_items.specs.Plain.{PlainItem}
use Rattle.rev_model.specs.State.{State}
use Rattle.rev_model.specs.declared.ChunkRef.{ChunkRef}
use Rattle.rev_model.specs.Client.{lookup, looked_at}

-- the item of what was found
abbrev pub item_of : Option (ChunkRef × PlainItem) → Option PlainItem
item_of o = option_map (λ f. f.1) o

-- the same by the chunk that a key leads to
abbrev pub live_at : State → Option ChunkRef → Option PlainItem
live_at s o = item_of (looked_at s o).1

-- none where the key has no item, or a dead one
abbrev pub live_of : State → List ℕ → Option PlainItem
live_of s k = item_of (lookup s k).1
