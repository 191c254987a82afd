-- Entries with their footprints, and how one leaves a list and enters it.
-- Rule of this project: a queue keeps beside each entry the bytes that it counts.
use Rattle.std.specs.Prelude.{ℕ, cond, Option, None, Some, List, [], ◌∷◌, map}
use Rattle.std.specs.List.{sum_by}
use Rattle.rev_model.specs.Chunk.{same_entry}
use Rattle.rev_model.specs.Move.{last_or}
use Rattle.rev_model.specs.declared.Entry.{Entry}
use Rattle.rev_model.specs.declared.Entry.TheVariants.{Chunk, Mark}

-- an entry of a queue, with the bytes that it counts there
pub record Queued : Type 0 where
  pub entry : Entry
  pub footprint : ℕ

-- the entries alone
abbrev pub entries : List Queued → List Entry
entries l = map (λ (q : Queued). q.entry) l

-- the bytes of a list
abbrev pub footprints : List Queued → ℕ
footprints l = sum_by (λ (q : Queued). q.footprint) l

-- what a footprint says of an entry: a mark counts no bytes
abbrev pub queued_with : Entry → ℕ → Queued
queued_with (Chunk x) n = record { entry = Chunk x; footprint = n }
queued_with Mark n = record { entry = Mark; footprint = 0 }

-- the list without an entry
abbrev pub without_entry : Entry → List Queued → List Queued
without_entry e [] = []
without_entry e (q ∷ qs) = cond (same_entry e q.entry) qs (q ∷ without_entry e qs)

-- n enters behind the entry y
abbrev pub behind_entry : Entry → Queued → List Queued → List Queued
behind_entry y n [] = n ∷ []
behind_entry y n (q ∷ qs) = cond (same_entry y q.entry) (q ∷ n ∷ qs) (q ∷ behind_entry y n qs)

-- n enters behind `after`, or in front
abbrev pub insert_entry : Queued → Option Entry → List Queued → List Queued
insert_entry n None qs = n ∷ qs
insert_entry n (Some y) qs = behind_entry y n qs

-- the last entry
abbrev pub last_of : List Entry → Option Entry
last_of [] = None
last_of (e ∷ es) = Some (last_or e es)
