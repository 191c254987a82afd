-- The map from chunks to items that a table of pages stands for.
-- Rule of this project: what the slots of all pages hold, as one finite map.
use Rattle.std.specs.Prelude.{ℕ, List, [], ◌∷◌, Option, None, slice_index_or, suc}
use Rattle.std.specs.FinMap as map
use Rattle.rev_items.specs.Plain.{PlainItem}
use Rattle.rev_model.specs.State.{Contents}
use Rattle.rev_model.specs.Move.{put_at}
use Rattle.rev_model.specs.declared.ChunkRef.{ChunkRef}

-- the slots of page p from number i on, over a map
abbrev pub made_slots : ℕ → ℕ → List (Option PlainItem) → Contents → Contents
made_slots p i [] m = m
made_slots p i (o ∷ os) m = put_at (made_slots p (suc i) os m) (record { page = p; slot = i }) o

-- the pages from number p on
abbrev pub made_from : ℕ → List (List (Option PlainItem)) → Contents
made_from p [] = map.empty
made_from p (l ∷ ls) = made_slots p 0 l (made_from (suc p) ls)

-- all pages
abbrev pub made : List (List (Option PlainItem)) → Contents
made ls = made_from 0 ls

-- what stands at a chunk of the table
abbrev pub at : List (List (Option PlainItem)) → ChunkRef → Option PlainItem
at ls x = slice_index_or (slice_index_or ls x.page []) x.slot None
