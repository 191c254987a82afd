-- How a page gets its slots and loses them, in three forms.
-- Rule of this project: a page is laid and lifted by one move, with its chunks in front of the free list.
use Rattle.std.specs.Prelude.{◌≡◌, ℕ, ◌<◌, ◌+◌, ◌++◌, ◌∷◌, [], false, length, take, drop, slice_index, slice_set}
use Rattle.rev_model.specs.declared.ChunkRef.{ChunkRef}
use Rattle.rev_model.specs.declared.Form.{Form}
use Rattle.rev_model.specs.declared.Form.TheVariants.{Fresh, Pool, Withdrawn}
use Rattle.rev_model.specs.Chunk.{same_chunk}
use Rattle.rev_model.specs.Lists.{has}
use Rattle.rev_model.specs.Move.{falling, front}
use Rattle.rev_pages.specs.State.{PagesState, free_of}

-- page p gets n slots and the class c
abbrev pub laid : ℕ → ℕ → ℕ → Form → PagesState → PagesState
laid p c n Fresh s = record { owner = s.owner ++ c ∷ []; free = slice_set s.free c (falling p n ++ free_of s c); slots = slice_set s.slots p n }
laid p c n Pool s = record { owner = slice_set s.owner p c; free = slice_set s.free c (falling p n ++ free_of s c); slots = slice_set s.slots p n }
laid p c n Withdrawn s = record { owner = slice_set s.owner p c; free = s.free; slots = slice_set s.slots p n }

-- a fresh page is the next number, and there is room for it; the others are there
abbrev pub CanLay : Form → ℕ → PagesState → Type 0
CanLay Fresh p s = (p ≡ length s.owner) × (p < length s.slots)
CanLay Pool p s = p < length s.owner
CanLay Withdrawn p s = p < length s.owner

-- page p of class c loses its n slots
abbrev pub lifted : ℕ → ℕ → ℕ → Form → PagesState → PagesState
lifted p c n Fresh s = record { owner = front s.owner; free = slice_set s.free c (drop n (free_of s c)); slots = slice_set s.slots p 0 }
lifted p c n Pool s = record { owner = slice_set s.owner p 0; free = slice_set s.free c (drop n (free_of s c)); slots = slice_set s.slots p 0 }
lifted p c n Withdrawn s = record { owner = slice_set s.owner p 0; free = s.free; slots = slice_set s.slots p 0 }

-- the page's chunks stand in front of its class's list as they were laid
abbrev pub Fronts : ℕ → PagesState → Type 0
Fronts p s = take (slice_index s.slots p) (free_of s (slice_index s.owner p)) ≡ falling p (slice_index s.slots p)

-- a fresh page goes as the last; of a withdrawn one no chunk is free
abbrev pub CanLift : Form → ℕ → PagesState → Type 0
CanLift Fresh p s = (p + 1 ≡ length s.owner) × Fronts p s
CanLift Pool p s = (p < length s.owner) × Fronts p s
CanLift Withdrawn p s = (p < length s.owner) × ((x : ChunkRef) (c : ℕ) → x.page ≡ p → has same_chunk x (free_of s c) ≡ false)
