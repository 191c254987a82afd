-- Where a key was before a step, read off the step's record and where it is after the step.
-- Rule of this project: what a record tells of a key, so that no step is played again for it.
use Rattle.std.specs.Prelude.{ℕ, Bool, false, cond, List, [], ◌∷◌, ◌++◌, Option, None, Some, is_some}
use Rattle.std.specs.Ordering.{eq_by_cmp, nat_cmp}
use Rattle.std.specs.Cmp.Lexicographic.{slice_cmp}
use Rattle.rev_items.specs.Plain.{PlainItem}
use Rattle.rev_model.specs.Chunk.{same_chunk, same_entry}
use Rattle.rev_model.specs.Lists.{has}
use Rattle.rev_model.specs.State.{State, item_at, find, owner_of, queue_of}
use Rattle.rev_model.specs.Move.{Move, Takes, Puts, Fills, Binds, Unbinds, Shifts, turned}
use Rattle.rev_model.specs.declared.ChunkRef.{ChunkRef}
use Rattle.rev_model.specs.declared.Entry.TheVariants.{Chunk}
use Rattle.rev_model.specs.declared.Queue.{Queue}
use Rattle.rev_model.specs.declared.Queue.TheVariants.{Hot, Warm, Cold, Temp}
use Rattle.rev_model.specs.declared.Listed.TheVariants.{InQueue}
use Rattle.rev_model.specs.declared.Placed.TheVariants.{ToQueue}
use Rattle.rev_model.specs.declared.Cause.{Cause}
use Rattle.rev_model.specs.declared.ClassQueue.{ClassQueue}
use Rattle.rev_model.specs.declared.KeyPlace.{KeyPlace}
use Rattle.rev_model.specs.declared.KeyChange.{KeyChange}

-- over states

abbrev pub held : State → List ℕ → Bool
held s k = is_some (find s k)

-- the chunk stands in this queue
abbrev pub sits_in : State → ChunkRef → ℕ → Queue → Bool
sits_in s x c q = has same_entry (Chunk x) (queue_of s c q)

-- the queue in which a chunk of class c stands
abbrev pub class_queue_within : State → ChunkRef → ℕ → Option ClassQueue
class_queue_within s x c =
    cond (sits_in s x c Hot) (Some (record { class = c; queue = Hot }))
    (cond (sits_in s x c Warm) (Some (record { class = c; queue = Warm }))
    (cond (sits_in s x c Cold) (Some (record { class = c; queue = Cold }))
    (cond (sits_in s x c Temp) (Some (record { class = c; queue = Temp })) None)))

-- the class and the queue in which the chunk stands
abbrev pub class_queue_in : State → ChunkRef → Option ClassQueue
class_queue_in s x = class_queue_within s x (owner_of s x.page)

-- the chunk, and where it stands
abbrev pub key_place_at : State → Option ChunkRef → Option KeyPlace
key_place_at s None = None
key_place_at s (Some x) = Some (record { chunk = x; lru = class_queue_in s x })

-- where the key is
abbrev pub key_place_of : State → List ℕ → Option KeyPlace
key_place_of s k = key_place_at s (find s k)

-- over a record's moves

abbrev pub same_key : List ℕ → List ℕ → Bool
same_key k l = eq_by_cmp (slice_cmp nat_cmp) k l

-- there is an item, and it has the key
abbrev pub has_key : List ℕ → Option PlainItem → Bool
has_key k None = false
has_key k (Some i) = same_key k i.key

-- the chunk is x
abbrev pub is_chunk : Option ChunkRef → ChunkRef → Bool
is_chunk None x = false
is_chunk (Some y) x = same_chunk x y

-- whether the chunk's item has the key once the moves were played, where `home` is the chunk of the key before
abbrev pub keyed : List ℕ → Option ChunkRef → List Move → ChunkRef → Bool
keyed k home [] x = is_chunk home x
keyed k home (Fills y o ∷ ms) x = cond (same_chunk x y) (has_key k o) (keyed k home ms x)
keyed k home (Shifts a b ∷ ms) x = cond (same_chunk x b) (keyed k home ms a) (cond (same_chunk x a) false (keyed k home ms x))
keyed k home (m ∷ ms) x = keyed k home ms x

-- the note beside the first move
abbrev pub first_note : List (Option Cause) → Option Cause
first_note [] = None
first_note (n ∷ ns) = n

-- the notes beside the others
abbrev pub more_notes : List (Option Cause) → List (Option Cause)
more_notes [] = []
more_notes (n ∷ ns) = ns

-- a key whose chunk was shifted leads to the other, and keeps the note of its removal
abbrev pub shift_change : ChunkRef → Option KeyChange → KeyChange
shift_change b None = record { leads = Some b; note = None }
shift_change b (Some t) = record { leads = Some b; note = t.note }

-- the last move, as they are played, that binds or unbinds the key
abbrev pub key_change : List ℕ → Option ChunkRef → List Move → List (Option Cause) → Option KeyChange
key_change k home [] ns = None
key_change k home (Binds x ∷ ms) ns = cond (keyed k home ms x) (Some (record { leads = Some x; note = first_note ns })) (key_change k home ms (more_notes ns))
key_change k home (Unbinds x ∷ ms) ns = cond (keyed k home ms x) (Some (record { leads = None; note = first_note ns })) (key_change k home ms (more_notes ns))
key_change k home (Shifts a b ∷ ms) ns = cond (keyed k home ms a) (Some (shift_change b (key_change k home ms (more_notes ns)))) (key_change k home ms (more_notes ns))
key_change k home (m ∷ ms) ns = key_change k home ms (more_notes ns)

-- where the key leads behind the change, `home` where nothing changed
abbrev pub leads_or : Option ChunkRef → Option KeyChange → Option ChunkRef
leads_or home None = home
leads_or home (Some t) = t.leads

-- the queue of a chunk once the moves were played
abbrev pub class_queue_before : Option ChunkRef → Option ClassQueue → List Move → ChunkRef → Option ClassQueue
class_queue_before home lru [] x = cond (is_chunk home x) lru None
class_queue_before home lru (Takes (InQueue c q (Chunk y)) ∷ ms) x = cond (same_chunk x y) None (class_queue_before home lru ms x)
class_queue_before home lru (Puts (ToQueue c q (Chunk y) a) ∷ ms) x = cond (same_chunk x y) (Some (record { class = c; queue = q })) (class_queue_before home lru ms x)
class_queue_before home lru (Fills y o ∷ ms) x = cond (same_chunk x y) None (class_queue_before home lru ms x)
class_queue_before home lru (Shifts a b ∷ ms) x = cond (same_chunk x b) (class_queue_before home lru ms a) (cond (same_chunk x a) None (class_queue_before home lru ms x))
class_queue_before home lru (m ∷ ms) x = class_queue_before home lru ms x

-- the chunk of a place
abbrev pub chunk_of : Option KeyPlace → Option ChunkRef
chunk_of None = None
chunk_of (Some p) = Some p.chunk

-- the class and queue of a place
abbrev pub class_queue_of : Option KeyPlace → Option ClassQueue
class_queue_of None = None
class_queue_of (Some p) = p.lru

-- the place of the key, by its chunk before the step
abbrev pub key_place_from : Option ChunkRef → Option ClassQueue → List Move → Option ChunkRef → Option KeyPlace
key_place_from home lru ms None = None
key_place_from home lru ms (Some x) = Some (record { chunk = x; lru = class_queue_before home lru ms x })

-- where the key was before the step whose record this is
abbrev pub key_place_before : List ℕ → List Move → List (Option Cause) → Option KeyPlace → Option KeyPlace
key_place_before k ms ns p = key_place_from (chunk_of p) (class_queue_of p) ms (leads_or (chunk_of p) (key_change k (chunk_of p) ms ns))

-- the removals from the index that a record tells, in the order made

pub record Removal : Type 0 where
  pub key : List ℕ
  pub note : Option Cause

-- one removal, where there was an item
abbrev pub removal : Option PlainItem → Option Cause → List Removal
removal None n = []
removal (Some i) n = record { key = i.key; note = n } ∷ []

-- of a record whose step left t: each binding of a key, when it is played, undoes a removal
abbrev pub removals : List Move → List (Option Cause) → State → List Removal
removals [] ns t = []
removals (Binds x ∷ ms) ns t = removal (item_at (turned ms t).0 x) (first_note ns) ++ removals ms (more_notes ns) t
removals (m ∷ ms) ns t = removals ms (more_notes ns) t

-- what the layers below keep of a record's notes: a move appends what it removed from the index, and nothing else
abbrev pub removed : Move → Option Cause → State → List Removal
removed (Unbinds x) n s = removal (item_at s x) n
removed m n s = []
