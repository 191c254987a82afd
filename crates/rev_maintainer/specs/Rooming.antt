-- How many moves room needs.
-- Rule of this project: memory for them is taken before the first, so that no step ends half done.
use Rattle.std.specs.Prelude.{ℕ, ◌≡◌, ◌+◌, ◌*◌, List, [], ◌∷◌, Option, None, Some}
use Rattle.rev_model.specs.State.{State, free_of}
use Rattle.rev_model.specs.Pull.{page_of}
use Rattle.rev_model.specs.declared.ChunkRef.{ChunkRef}
use Rattle.rev_model.specs.declared.Form.{Form}
use Rattle.rev_edits.specs.Paging.{IsPlan}
use Rattle.rev_maintainer.specs.declared.room.RoomPlan.{RoomPlan}

-- one move for a free chunk, two for a page; else four a round, and two
abbrev pub need_by : ℕ → List ChunkRef → Option (ℕ × Form) → ℕ
need_by k (x ∷ xs) p = 1
need_by k [] (Some p) = 2
need_by k [] None = 4 * k + 2

-- the moves of at most k rounds
abbrev pub room_need : ℕ → State → ℕ → ℕ
room_need k s c = need_by k (free_of s c) (page_of s c)

-- memory for that is taken: a page, where no chunk is free, and the moves of ten rounds
pub record IsRoomPlan {A : Type 0} (s : State) (c : ℕ) (plan : RoomPlan A) : Type 0 where
  pub page : free_of s c ≡ [] → IsPlan s c plan.page
  pub moves : plan.moves ≡ room_need 10 s c
