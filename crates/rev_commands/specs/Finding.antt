-- What a lookup found, told from the state after it and the chunk.
-- Rule of this project: a look-up answers a chunk, and its item is that of the state after it.
use Rattle.std.specs.Prelude.{Option, None, Some}
use Rattle.std.specs.Option.{option_map}
use Rattle.rev_items.specs.Plain.{PlainItem}
use Rattle.rev_model.specs.State.{State, item_at}
use Rattle.rev_model.specs.declared.ChunkRef.{ChunkRef}

-- the chunk with its item
abbrev pub held_item : ChunkRef → Option PlainItem → Option (ChunkRef × PlainItem)
held_item x None = None
held_item x (Some i) = Some (x, i)

-- the chunk with what it holds now
abbrev pub held : State → Option ChunkRef → Option (ChunkRef × PlainItem)
held s None = None
held s (Some x) = held_item x (item_at s x)

-- the chunk, if it holds an item now
abbrev pub standing : State → Option ChunkRef → Option ChunkRef
standing s o = option_map (λ f. f.0) (held s o)
