-- A chunk that is taken, with the state in which it is.
-- Rule of this project: what room answers: a state and a chunk, or nothing.
use Rattle.std.specs.Prelude.{Option, None, Some}
use Rattle.rev_model.specs.State.{State}
use Rattle.rev_model.specs.declared.ChunkRef.{ChunkRef}

-- the chunk with the state
abbrev pub paired : State → Option ChunkRef → Option (State × ChunkRef)
paired s None = None
paired s (Some x) = Some (s, x)
