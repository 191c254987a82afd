-- The page mover at work: the chunk that it comes to, the mover a slot further, and the page given back.
-- Rule of this project: a page goes slot by slot, each in a step of its own.
use Rattle.std.specs.Prelude.{◌≡◌, ◌+◌, ◌<◌, Option, None, Some, slice_set}
use Rattle.rev_model.specs.State.{State, per_page}
use Rattle.rev_model.specs.Actor.{with_globals, handed}
use Rattle.rev_model.specs.declared.ChunkRef.{ChunkRef}
use Rattle.rev_model.specs.declared.Mover.{Mover}
use Rattle.rev_model.specs.declared.Outcome.{Outcome}
use Rattle.rev_model.specs.declared.Outcome.TheVariants.{Finished}

-- the chunk that the mover comes to
abbrev pub slot_chunk : Mover → ChunkRef
slot_chunk m = record { page = m.page; slot = m.slot }

-- the mover, a slot further
abbrev pub next_mover : Mover → Mover
next_mover m = record m { slot = m.slot + 1 }

-- the state with this move of a page under way, or with none
abbrev pub with_mover : Option Mover → State → State
with_mover m s = with_globals (record s.globals { mover = m }) s

-- the move is over and its page in the pool
abbrev pub pooled : Mover → State → State
pooled m s = record s { owner = slice_set s.owner m.page 0; globals = record s.globals { mover = None } }

-- what the last step answers
abbrev pub finished : Mover → State → State × Outcome
finished m s = (handed m s, Finished)

-- this move is under way, with slots left
pub record IsLeft (s : State) (m : Mover) : Type 0 where
  pub is : s.globals.mover ≡ Some m
  pub slot : m.slot < per_page s.fixed m.src

-- this move is under way, and its slots are done
pub record IsDone (s : State) (m : Mover) : Type 0 where
  pub is : s.globals.mover ≡ Some m
  pub slot : m.slot ≡ per_page s.fixed m.src
