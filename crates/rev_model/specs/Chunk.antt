-- Chunks and entries: the test for equality, the order, the code.
-- Rule of this project: a chunk is a slot of a page, and chunks stand in the order of page and slot.
use Rattle.std.specs.Prelude.{ℕ, Bool, true, false, ◌&&◌, ◌==◌, ◌<◌, refl, List, length, slice_index}
use Rattle.std.specs.Coded.{Coded, code_by, coded×, coded_ℕ}
use Rattle.std.specs.Ordering.{nat_cmp, ordering_then}
use Rattle.std.specs.declared.cmp.Ordering.{Ordering}
use Rattle.rev_model.specs.declared.ChunkRef.{ChunkRef}
use Rattle.rev_model.specs.declared.Entry.{Entry}
use Rattle.rev_model.specs.declared.Entry.TheVariants.{Chunk, Mark}

-- the same page and the same slot
abbrev pub same_chunk : ChunkRef → ChunkRef → Bool
same_chunk a b = (a.page == b.page) && (a.slot == b.slot)

-- the same chunk, or both the mark
abbrev pub same_entry : Entry → Entry → Bool
same_entry (Chunk a) (Chunk b) = same_chunk a b
same_entry (Chunk a) Mark = false
same_entry Mark (Chunk b) = false
same_entry Mark Mark = true

-- by page, and then by slot
abbrev pub chunk_cmp : ChunkRef → ChunkRef → Ordering
chunk_cmp a b = ordering_then (nat_cmp a.page b.page) (nat_cmp a.slot b.slot)

-- the code of a chunk: its page and its slot
abbrev pub coded_chunk : Coded ChunkRef
coded_chunk = code_by (ℕ × ℕ) (coded× coded_ℕ coded_ℕ) (λ c. (c.page, c.slot)) (λ p. record { page = p.0; slot = p.1 }) (λ _. refl)

-- the chunk is a slot of a page, where `slots` counts each page's
abbrev pub HasSlot : List ℕ → ChunkRef → Type 0
HasSlot slots x = (x.page < length slots) × (x.slot < slice_index slots x.page)

-- the same of an entry; a mark needs none
abbrev pub EntryHasSlot : List ℕ → Entry → Type 0
EntryHasSlot slots (Chunk x) = HasSlot slots x
EntryHasSlot slots Mark = Unit {0}
