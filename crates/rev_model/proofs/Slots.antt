-- How many slots each page has, and what a possible move says of the slots and keys that it touches.
use Rattle.std.specs.Prelude.{ℕ, List, map as map_list, ◌≡◌, true, false, [], ◌∷◌, Option, None, Some, is_some, length, slice_index, slice_index_or, slice_set, zero, suc, refl}
use Rattle.rev_model.specs.State.{Fixed, per_page, State, IsChunkOf, free_of, queue_of, queue_place, item_at, find}
use Rattle.std.proofs.Common.{sym, ◌∙◌, ap, arith}
use Rattle.std.proofs.lemmas.List.{get_or-set_same}
use Rattle.rev_items.specs.Plain.{PlainItem}
use Rattle.rev_model.specs.Chunk.{same_chunk, same_entry, HasSlot, EntryHasSlot}
use Rattle.rev_model.proofs.Chunks.{chunk_cmp_exact, chunk_cmp_total}
use Rattle.rev_model.specs.Lists.{has, insert}
use Rattle.rev_model.proofs.ListLaws.{has-insert}
use Rattle.rev_model.specs.Move.{Puts, Fills, Touches, moved, Possible}
use Rattle.rev_model.proofs.Undo.{tells_chunk, tells_entry, free_lacks, queue_lacks, get-put_at_same}
use Rattle.rev_model.specs.declared.ChunkRef.{ChunkRef}
use Rattle.rev_model.specs.declared.Entry.{Entry}
use Rattle.rev_model.specs.declared.Entry.TheVariants.{Chunk, Mark}
use Rattle.rev_model.specs.declared.Queue.{Queue}
use Rattle.rev_model.specs.declared.Touched.{Touched}
use Rattle.rev_model.specs.declared.Placed.TheVariants.{ToFree, ToQueue}

-- how many slots each page has
abbrev pub page_slots : Fixed → List ℕ → List ℕ
page_slots f owner = map_list (per_page f) owner

length_slots : (f : Fixed) (owner : List ℕ) → length (page_slots f owner) ≡ length owner
length_slots f [] = refl
length_slots f (c ∷ cs) = let more : length (page_slots f cs) ≡ length cs = length_slots f cs in omega (arith, more)

slots_at : (f : Fixed) (owner : List ℕ) (p : ℕ) → slice_index (page_slots f owner) p ≡ per_page f (slice_index owner p)
slots_at f [] p = refl
slots_at f (c ∷ cs) zero = refl
slots_at f (c ∷ cs) (suc p) = slots_at f cs p

pub chunk_has_slot : (s : State) (c : ℕ) (x : ChunkRef) → IsChunkOf s.fixed s.owner c x → HasSlot (page_slots s.fixed s.owner) x
chunk_has_slot s c x h =
    let n : slice_index (page_slots s.fixed s.owner) x.page ≡ per_page s.fixed c = slots_at s.fixed s.owner x.page ∙ ap (per_page s.fixed) h.owned in
    (omega (arith, length_slots s.fixed s.owner, h.page), rw n h.slot)

pub put_free_slot : (s : State) (c : ℕ) (x : ChunkRef) (a : Option ChunkRef) → Possible (Puts (ToFree c x a)) s → HasSlot (page_slots s.fixed s.owner) x
put_free_slot s c x a p =
    let t = moved (Puts (ToFree c x a)) s in
    let l = insert same_chunk x a (free_of s c) in
    let got : slice_index_or (slice_set s.free c (insert same_chunk x a (free_of s c))) c [] ≡ insert same_chunk x a (free_of s c) = get_or-set_same s.free c l [] p.ready.0 in
    chunk_has_slot t c x (p.after.lists.free_of_class c x (rw got (has-insert same_chunk tells_chunk x a (free_of s c))))

pub put_queue_slot : (s : State) (c : ℕ) (q : Queue) (e : Entry) (a : Option Entry) → Possible (Puts (ToQueue c q e a)) s → EntryHasSlot (page_slots s.fixed s.owner) e
put_queue_slot s c q Mark a p = tt
put_queue_slot s c q (Chunk x) a p =
    let t = moved (Puts (ToQueue c q (Chunk x) a)) s in
    let l = insert same_entry (Chunk x) a (queue_of s c q) in
    let got : slice_index_or (slice_set s.queues (queue_place c q) (insert same_entry (Chunk x) a (queue_of s c q))) (queue_place c q) [] ≡ insert same_entry (Chunk x) a (queue_of s c q) = get_or-set_same s.queues (queue_place c q) l [] p.ready.0 in
    chunk_has_slot t c x (p.after.lists.queued_of_class c q x (rw got (has-insert same_entry tells_entry (Chunk x) a (queue_of s c q))))

pub fill_keeps_key : (s : State) (x : ChunkRef) (o : Option PlainItem) → Possible (Fills x o) s → (k : List ℕ) → find s k ≡ Some x → (i : PlainItem) × (o ≡ Some i) × (i.key ≡ k)
fill_keeps_key s x o p k h =
    let w = p.after.index.indexed k x h in
    (w.0, sym (get-put_at_same chunk_cmp_total chunk_cmp_exact s.content x o) ∙ w.1, w.2)

some_item : (o : Option PlainItem) → is_some o ≡ true → (i : PlainItem) × (o ≡ Some i)
some_item None h = absurd (cc)
some_item (Some i) h = (i, refl)

pub touch_item : (s : State) (x : ChunkRef) → is_some (item_at s x) ≡ true → (i : PlainItem) × (item_at s x ≡ Some i)
touch_item s x h = some_item (item_at s x) h

-- the same facts, from the whole of what a move owes
pub put_free_gone : (s : State) (c : ℕ) (x : ChunkRef) (a : Option ChunkRef) → Possible (Puts (ToFree c x a)) s → (d : ℕ) → has same_chunk x (free_of s d) ≡ false
put_free_gone s c x a p d = free_lacks s d x p.ready.1

pub put_queue_gone : (s : State) (c : ℕ) (q : Queue) (e : Entry) (a : Option Entry) → Possible (Puts (ToQueue c q e a)) s → has same_entry e (queue_of s c q) ≡ false
put_queue_gone s c q e a p = queue_lacks s c q e p.ready.1

pub touch_there : (s : State) (x : ChunkRef) (t : Touched) → Possible (Touches x t) s → (i : PlainItem) × (item_at s x ≡ Some i)
touch_there s x t p = touch_item s x p.ready
