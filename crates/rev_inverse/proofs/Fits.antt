-- What the parts keep stays so after each change of one of them.
use Rattle.std.specs.Prelude.{ℕ, ◌≡◌, ◌+◌, ◌≤◌, true, false, cond, List, [], ◌∷◌, Option, None, Some, length, slice_index, slice_index_or, slice_set, zero, suc, refl, map as map_list}
use Rattle.std.proofs.Common.{sym, ◌∙◌, ap, subst, arith, inl, inr}
use Rattle.std.proofs.lemmas.Bool.{cases_Bool, true≢false}
use Rattle.std.specs.Option.{option_map}
use Rattle.std.specs.FinMap as map
use Rattle.std.specs.Ordering.{eq_by_cmp}
use Rattle.rev_items.specs.Plain.{PlainItem}
use Rattle.rev_links.specs.Rings.{In}
use Rattle.rev_model.specs.Chunk.{same_entry, chunk_cmp, HasSlot, EntryHasSlot}
use Rattle.rev_model.proofs.Chunks.{chunk_cmp_exact, chunk_cmp_total}
use Rattle.rev_model.specs.Lists.{has}
use Rattle.rev_model.specs.State.{State, Fixed, Contents, per_page, queue_place}
use Rattle.rev_model.proofs.Slots.{page_slots}
use Rattle.rev_model.specs.Move.{Possible, Fills, Puts, put_at, touched}
use Rattle.rev_model.proofs.Undo.{tells_entry, tied, get-put_at, in_no_queue}
use Rattle.rev_model.specs.Words.{weight, size_of}
use Rattle.rev_model.specs.declared.ChunkRef.{ChunkRef}
use Rattle.rev_model.specs.declared.Touched.{Touched}
use Rattle.rev_model.specs.declared.Queue.{Queue}
use Rattle.rev_model.specs.declared.Placed.TheVariants.{ToQueue}
use Rattle.rev_model.specs.declared.Entry.{Entry}
use Rattle.rev_model.specs.declared.Entry.TheVariants.{Chunk, Mark}
use Rattle.rev_pages.specs.State.{PagesState}
use Rattle.rev_queues.specs.Entries.{Queued, entries, queued_with, without_entry, insert_entry}
use Rattle.rev_queues.proofs.Entries.{entries-at, taken_stood, put_stood}
use Rattle.rev_queues.specs.QueueState.{QueuesState, IsGone}
use Rattle.rev_index.specs.Index.{PlainIndex}
use Rattle.rev_inverse.specs.Fitted.{Fitted}

-- an entry that stands in a queue with its footprint stands in its list of entries
pub In-has : (q : Queued) (l : List Queued) → In q l → has same_entry q.entry (entries l) ≡ true
In-has q [] m = absurd m
In-has q (r ∷ rs) m = elim m [
  | inl u ↦ ap (λ (e : Queued). cond (same_entry q.entry e.entry) true (has same_entry q.entry (entries rs))) u ∙ rw (tells_entry.self q.entry) refl
  | inr w ↦ elim (cases_Bool (same_entry q.entry r.entry)) [ inl f ↦ rw f refl | inr f ↦ rw f (In-has q rs w) ]
]

-- the weight of an entry that is not the chunk's
pub weight_other : (m : Contents) (x : ChunkRef) (o : Option PlainItem) (d : Entry) → (d ≡ Chunk x → ⊥) → weight (put_at m x o) d ≡ weight m d
weight_other m x o Mark ne = refl
weight_other m x o (Chunk y) ne = elim (cases_Bool (eq_by_cmp chunk_cmp y x)) [
  | inl e ↦ absurd (ne (ap Chunk (tied chunk_cmp_total chunk_cmp_exact y x e)))
  | inr e ↦ ap size_of (get-put_at chunk_cmp_total chunk_cmp_exact m x o y ∙ ap (λ b. cond b o (map.get m y)) e)
]

touched_size : (t : Touched) (o : Option PlainItem) → size_of (option_map (touched t) o) ≡ size_of o
touched_size t None = refl
touched_size t (Some i) = refl

weight_touched : (m : Contents) (x : ChunkRef) (t : Touched) (d : Entry) → weight (put_at m x (option_map (touched t) (map.get m x))) d ≡ weight m d
weight_touched m x t Mark = refl
weight_touched m x t (Chunk y) = elim (cases_Bool (eq_by_cmp chunk_cmp y x)) [
  | inl e ↦
      let same = tied chunk_cmp_total chunk_cmp_exact y x e in
      ap size_of (get-put_at chunk_cmp_total chunk_cmp_exact m x (option_map (touched t) (map.get m x)) y ∙ ap (λ b. cond b (option_map (touched t) (map.get m x)) (map.get m y)) e)
      ∙ touched_size t (map.get m x) ∙ ap (λ z. size_of (map.get m z)) (sym same)
  | inr e ↦ ap size_of (get-put_at chunk_cmp_total chunk_cmp_exact m x (option_map (touched t) (map.get m x)) y ∙ ap (λ b. cond b (option_map (touched t) (map.get m x)) (map.get m y)) e)
]

module _ (f : Fixed) (p : PagesState) (q : QueuesState) (x : PlainIndex) (capacity : ℕ) (fitted : Fitted f p q x capacity) where
  pub fitted_taken : (next : QueuesState) (place : ℕ) (e : Entry) → next ≡ record q { queues = slice_set q.queues place (without_entry e (slice_index_or q.queues place [])) } → Fitted f p next x capacity
  fitted_taken next place e is = subst (λ n. Fitted f p n x capacity) (sym is) (record {
    table = fitted.table;
    slots = fitted.slots;
    in_queues = fitted.in_queues;
    in_index = fitted.in_index;
    told = λ n d m. let stood = taken_stood d q.queues place e n m in fitted.told stood.0 d stood.1;
    bump = fitted.bump;
    limit = fitted.limit;
  })

  told_with : (e : Entry) (n : ℕ) → n ≡ weight x.content e → (queued_with e n).footprint ≡ weight x.content (queued_with e n).entry
  told_with (Chunk y) n h = h
  told_with Mark n h = refl

  pub fitted_put : (next : QueuesState) (place : ℕ) (e : Entry) (after : Option Entry) (n : ℕ) → n ≡ weight x.content e → next ≡ record q { queues = slice_set q.queues place (insert_entry (queued_with e n) after (slice_index_or q.queues place [])) } → Fitted f p next x capacity
  fitted_put next place e after n h is = subst (λ n. Fitted f p n x capacity) (sym is) (record {
    table = fitted.table;
    slots = fitted.slots;
    in_queues = fitted.in_queues;
    in_index = fitted.in_index;
    told = λ k d m. elim (put_stood d q.queues place (queued_with e n) after k m) [
      | inl u ↦ subst (λ (r : Queued). r.footprint ≡ weight x.content r.entry) u (told_with e n h)
      | inr w ↦ fitted.told w.0 d w.1
    ];
    bump = fitted.bump;
    limit = fitted.limit;
  })

  pub fitted_filled : (next : PlainIndex) (y : ChunkRef) (o : Option PlainItem) → ((n : ℕ) → has same_entry (Chunk y) (entries (slice_index_or q.queues n [])) ≡ false) → next ≡ record x { content = put_at x.content y o } → Fitted f p q next capacity
  fitted_filled next y o gone is = subst (λ n. Fitted f p q n capacity) (sym is) (record {
    table = fitted.table;
    slots = fitted.slots;
    in_queues = fitted.in_queues;
    in_index = fitted.in_index;
    told = λ k d m. fitted.told k d m ∙ sym (weight_other x.content y o d.entry (λ e. true≢false (sym (ap (λ z. has same_entry z (entries (slice_index_or q.queues k []))) (sym e) ∙ In-has d (slice_index_or q.queues k []) m) ∙ gone k)));
    bump = fitted.bump;
    limit = fitted.limit;
  })

  pub fitted_touched : (next : PlainIndex) (y : ChunkRef) (t : Touched) → next ≡ record x { content = put_at x.content y (option_map (touched t) (map.get x.content y)) } → Fitted f p q next capacity
  fitted_touched next y t is = subst (λ n. Fitted f p q n capacity) (sym is) (record {
    table = fitted.table;
    slots = fitted.slots;
    in_queues = fitted.in_queues;
    in_index = fitted.in_index;
    told = λ k d m. fitted.told k d m ∙ sym (weight_touched x.content y t d.entry);
    bump = fitted.bump;
    limit = fitted.limit;
  })

  -- a chunk of an owned page has its slot
  pub fitted_slot : (y : ChunkRef) → length p.owner ≤ f.limit + 62 → HasSlot (page_slots f p.owner) y → HasSlot p.slots y
  fitted_slot y made h = (omega (arith, fitted.table, made, length_slots f p.owner, h.0), rw (fitted.slots y.page ∙ sym (slots_at f p.owner y.page)) h.1)
    where
      length_slots : (f : Fixed) (owner : List ℕ) → length (page_slots f owner) ≡ length owner
      length_slots f [] = refl
      length_slots f (c ∷ cs) = let more : length (page_slots f cs) ≡ length cs = length_slots f cs in omega (arith, more)

      slots_at : (f : Fixed) (owner : List ℕ) (p : ℕ) → slice_index (page_slots f owner) p ≡ per_page f (slice_index owner p)
      slots_at f [] p = refl
      slots_at f (c ∷ cs) zero = refl
      slots_at f (c ∷ cs) (suc p) = slots_at f cs p

  pub fitted_entry : (e : Entry) → length p.owner ≤ f.limit + 62 → EntryHasSlot (page_slots f p.owner) e → EntryHasSlot p.slots e
  fitted_entry Mark made h = tt
  fitted_entry (Chunk y) made h = fitted_slot y made h

-- what stands in no list is in no queue, nor does a mark that may enter stand there
pub gone_fill : (s : State) (qs : List (List Queued)) → s.queues ≡ map_list entries qs → (x : ChunkRef) (o : Option PlainItem) → Possible (Fills x o) s → (n : ℕ) → has same_entry (Chunk x) (entries (slice_index_or qs n [])) ≡ false
gone_fill s qs is x o p n = ap (has same_entry (Chunk x)) (sym (entries-at qs n) ∙ ap (λ l. slice_index_or l n []) (sym is)) ∙ in_no_queue s x p.ready.1 n

pub gone_put : (s : State) (qs : List (List Queued)) → s.queues ≡ map_list entries qs → (c : ℕ) (q : Queue) (e : Entry) (a : Option Entry) → Possible (Puts (ToQueue c q e a)) s → IsGone qs (queue_place c q) e
gone_put s qs is c q (Chunk x) a p = λ n. ap (has same_entry (Chunk x)) (sym (entries-at qs n) ∙ ap (λ l. slice_index_or l n []) (sym is)) ∙ in_no_queue s x p.ready.1 n
gone_put s qs is c q Mark a p = ap (has same_entry Mark) (sym (entries-at qs (queue_place c q)) ∙ ap (λ l. slice_index_or l (queue_place c q) []) (sym is)) ∙ p.ready.1
