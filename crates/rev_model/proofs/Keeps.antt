-- When the state after a move is well formed: what a caller shows beside `Ready`.
use Rattle.std.specs.Prelude.{ℕ, ◌≡◌, ◌+◌, ◌<◌, ◌≤◌, Bool, true, false, cond, List, [], ◌∷◌, Option, None, Some, is_some, length, slice_index_or, slice_set, refl, ◌⊎◌}
use Rattle.std.proofs.Common.{sym, ◌∙◌, ap, inl, inr, arith, subst}
use Rattle.std.proofs.lemmas.Bool.{cases_Bool, false≢true, true≢false, cases_eq}
use Rattle.std.proofs.lemmas.List.{get_or-set_same, get_or-set_other, length-set}
use Rattle.std.proofs.lemmas.List.Sums.{sum_by-set}
use Rattle.std.specs.List.{sum_by}
use Rattle.std.specs.FinMap as map
use Rattle.rev_items.specs.Plain.{PlainItem}
use Rattle.rev_model.specs.Chunk.{same_chunk, same_entry, chunk_cmp}
use Rattle.rev_model.proofs.Chunks.{chunk_cmp_exact, chunk_cmp_total}
use Rattle.rev_model.specs.Lists.{has, count, without, insert, behind}
use Rattle.rev_model.proofs.ListLaws.{Tells}
use Rattle.rev_model.specs.State.{State, WellFormed, IsChunkOf, free_of, queue_of, queue_place, counter_place, owner_of, item_at, find, stands_in, stands, queue_number}
use Rattle.rev_model.specs.Move.{Takes, Puts, Fills, Binds, Unbinds, Counts, Sets, put_at, moved, Ready, Possible, MayEnter}
use Rattle.rev_model.proofs.Undo.{tells_chunk, tells_entry, count_in_table, free_lacks, has-count, get-put_at, tied, undo}
use Rattle.std.specs.Ordering.{eq_by_cmp, nat_cmp}
use Rattle.std.specs.Cmp.Lexicographic.{slice_cmp, nat_list_cmp_total}
use Rattle.rev_model.specs.declared.Queue.TheVariants.{Hot, Warm, Cold, Temp}
use Rattle.rev_model.specs.declared.ChunkRef.{ChunkRef}
use Rattle.rev_model.specs.declared.Entry.{Entry}
use Rattle.rev_model.specs.declared.Entry.TheVariants.{Chunk, Mark}
use Rattle.rev_model.specs.declared.Queue.{Queue}
use Rattle.rev_model.specs.declared.Counter.{Counter}
use Rattle.rev_model.specs.declared.GlobalPart.{GlobalPart}
use Rattle.rev_model.specs.declared.Listed.TheVariants.{InFree, InQueue}
use Rattle.rev_model.specs.declared.Placed.TheVariants.{ToFree, ToQueue}

module _ {X : Type 0} (same : X → X → Bool) (tells : Tells same) where
  has-without_sub : (x y : X) (ys : List X) → has same y (without same x ys) ≡ true → has same y ys ≡ true
  has-without_sub x y [] h = h
  has-without_sub x y (z ∷ zs) h = elim (cases_Bool (same y z)) [
    | inl e ↦ rw e refl
    | inr e ↦ elim (cases_Bool (same x z)) [
      | inl f ↦ rw e (rw f at h)
      | inr f ↦ rw e (has-without_sub x y zs (rw (f, e) at h))
    ]
  ]

  count-without_le : (x y : X) (ys : List X) → count same y (without same x ys) ≤ count same y ys
  count-without_le x y [] = omega arith
  count-without_le x y (z ∷ zs) =
      let more : count same y (without same x zs) ≤ count same y zs = count-without_le x y zs in
      elim (cases_Bool (same x z)) [ inl f ↦ rw f (omega arith) | inr f ↦ rw f (omega (arith, more)) ]

  count-behind : (x y v : X) (ys : List X) → count same y (behind same v x ys) ≡ count same y ys + cond (same y x) 1 0
  count-behind x y v [] = omega arith
  count-behind x y v (z ∷ zs) =
      let more : count same y (behind same v x zs) ≡ count same y zs + cond (same y x) 1 0 = count-behind x y v zs in
      elim (cases_Bool (same v z)) [ inl f ↦ rw f (omega arith) | inr f ↦ rw f (omega (arith, more)) ]

  pub count-insert : (x y : X) (a : Option X) (ys : List X) → count same y (insert same x a ys) ≡ count same y ys + cond (same y x) 1 0
  count-insert x y None ys = omega arith
  count-insert x y (Some v) ys = count-behind x y v ys

  has_of_count : (y : X) (ys : List X) → 1 ≤ count same y ys → has same y ys ≡ true
  has_of_count y [] h = absurd (omega (arith, h))
  has_of_count y (z ∷ zs) h = elim (cases_Bool (same y z)) [ inl e ↦ rw e refl | inr e ↦ rw e (has_of_count y zs (omega (arith, rw e at h))) ]

  count_of_has : (y : X) (ys : List X) → has same y ys ≡ true → 1 ≤ count same y ys
  count_of_has y [] h = absurd (false≢true h)
  count_of_has y (z ∷ zs) h = elim (cases_Bool (same y z)) [
    | inl e ↦ rw e (omega arith)
    | inr e ↦ let more : 1 ≤ count same y zs = count_of_has y zs (rw e at h) in omega (arith, more)
  ]

  -- what is in a list after an insert was put or was there
  has-insert_inv : (x y : X) (a : Option X) (ys : List X) → has same y (insert same x a ys) ≡ true → (y ≡ x) ⊎ (has same y ys ≡ true)
  has-insert_inv x y a ys h = elim (cases_Bool (same y x)) [
    | inl e ↦ inl (tells.exact y x e)
    | inr e ↦
        let n : count same y (insert same x a ys) ≡ count same y ys + cond (same y x) 1 0 = count-insert x y a ys in
        let m : count same y (insert same x a ys) ≡ count same y ys + cond false 1 0 = rw e at n in
        let k : 1 ≤ count same y (insert same x a ys) = count_of_has y (insert same x a ys) h in
        inr (has_of_count y ys (omega (arith, m, k)))
  ]

-- a table with one list changed
module _ {X : Type 0} (same : X → X → Bool) where
  in_set : (table : List (List X)) (n d : ℕ) (a : List X) (y : X) → n < length table → has same y (slice_index_or (slice_set table n a) d []) ≡ true → ((d ≡ n) × (has same y a ≡ true)) ⊎ (has same y (slice_index_or table d []) ≡ true)
  in_set table n d a y lt h = elim (cases_eq d n) [
    | inl e ↦ inl (e, (ap (has same y) (sym (ap (λ k. slice_index_or (slice_set table n a) k []) e ∙ get_or-set_same table n a [] lt)) ∙ h))
    | inr e ↦ inr (ap (has same y) (sym (get_or-set_other table n d a [] e)) ∙ h)
  ]

  shrunk : (table : List (List X)) (n d : ℕ) (a : List X) (y : X) → n < length table → ((z : X) → has same z a ≡ true → has same z (slice_index_or table n []) ≡ true) → has same y (slice_index_or (slice_set table n a) d []) ≡ true → has same y (slice_index_or table d []) ≡ true
  shrunk table n d a y lt sub h = elim (in_set table n d a y lt h) [
    | inl e ↦ ap (λ k. has same y (slice_index_or table k [])) e.0 ∙ sub y e.1
    | inr e ↦ e
  ]

  lacks : (l m : List X) (y : X) → (has same y l ≡ true → has same y m ≡ true) → has same y m ≡ false → has same y l ≡ false
  lacks l m y sub gone = elim (cases_Bool (has same y l)) [ inl e ↦ absurd (true≢false (sym (sub e) ∙ gone)) | inr e ↦ e ]

  member_count : (table : List (List X)) (n d : ℕ) (a : List X) (y : X) (most : ℕ) → n < length table → count same y a ≤ most → count same y (slice_index_or table d []) ≤ most → count same y (slice_index_or (slice_set table n a) d []) ≤ most
  member_count table n d a y most lt here there = elim (cases_eq d n) [
    | inl e ↦ rw (ap (λ k. slice_index_or (slice_set table n a) k []) e ∙ get_or-set_same table n a [] lt) here
    | inr e ↦ rw (get_or-set_other table n d a [] e) there
  ]

no_count : {X : Type 0} (same : X → X → Bool) (y : X) (ys : List X) → has same y ys ≡ false → count same y ys ≡ 0
no_count same y [] h = refl
no_count same y (z ∷ zs) h = elim (cases_Bool (same y z)) [
  | inl e ↦ absurd (true≢false (rw e at h))
  | inr e ↦ let more : count same y zs ≡ 0 = no_count same y zs (rw e at h) in rw e (omega (arith, more))
]

-- a chunk that stands nowhere is in no queue
stands_not : (s : State) (p : ℕ) (x : ChunkRef) → stands s x ≡ 0 → has same_entry (Chunk x) (slice_index_or s.queues p []) ≡ true → ⊥
stands_not s p x none h = true≢false (sym h ∙ has-count same_entry tells_entry (Chunk x) (slice_index_or s.queues p []) (omega (arith, none, count_in_table same_entry tells_entry (Chunk x) s.queues p)))

pub keeps-take_free : (s : State) → WellFormed s → (c : ℕ) (x : ChunkRef) → Ready (Takes (InFree c x)) s → Possible (Takes (InFree c x)) s
keeps-take_free s well c x r =
    let l = free_of s c in
    let sub : (z : ChunkRef) → has same_chunk z (without same_chunk x l) ≡ true → has same_chunk z l ≡ true = λ z h. has-without_sub same_chunk tells_chunk x z l h in
    record {
      ready = r;
      after = record {
        lists = record {
          free_length = length-set s.free c (without same_chunk x l) ∙ well.lists.free_length;
          queues_length = well.lists.queues_length;
          free_of_class = λ d y h. well.lists.free_of_class d y (shrunk same_chunk s.free c d (without same_chunk x l) y r.0 sub h);
          queued_of_class = well.lists.queued_of_class;
          once = λ y. omega (arith, well.lists.once y, sum_by-set (count same_chunk y) s.free c (without same_chunk x l) [] r.0, count-without_le same_chunk tells_chunk x y l);
          one_mark = well.lists.one_mark;
        };
        filled = record {
          queued_items = well.filled.queued_items;
          items = λ y h. ((well.filled.items y h).0, λ d. lacks same_chunk _ (free_of s d) y (λ g. shrunk same_chunk s.free c d (without same_chunk x l) y r.0 sub g) ((well.filled.items y h).1 d));
        };
        index = well.index;
        owned = well.owned;
        bump = well.bump;
        counters = well.counters;
      };
    }

-- no chunk stands twice after one that stood nowhere is put
put_once : (s : State) → WellFormed s → (c : ℕ) (x : ChunkRef) (m : List ChunkRef) (y : ChunkRef) → stands s x ≡ 0 → sum_by (count same_chunk y) (slice_set s.free c m) + count same_chunk y (free_of s c) ≡ sum_by (count same_chunk y) s.free + count same_chunk y m → count same_chunk y m ≡ count same_chunk y (free_of s c) + cond (same_chunk y x) 1 0 → stands_in (slice_set s.free c m) s.queues y ≤ 1
put_once s well c x m y none sum put = elim (cases_Bool (same_chunk y x)) [
  | inl e ↦
      let n : stands s y ≡ 0 = ap (stands s) (tells_chunk.exact y x e) ∙ none in
      let k : count same_chunk y m ≡ count same_chunk y (free_of s c) + 1 = rw e at put in
      omega (arith, n, sum, k)
  | inr e ↦
      let k : count same_chunk y m ≡ count same_chunk y (free_of s c) + 0 = rw e at put in
      omega (arith, well.lists.once y, sum, k)
]

-- a chunk with an item is in no free list after one without is put
put_lacks : (s : State) (c d : ℕ) (x y : ChunkRef) (a : Option ChunkRef) → c < length s.free → item_at s x ≡ None → is_some (item_at s y) ≡ true → ((k : ℕ) → has same_chunk y (free_of s k) ≡ false) → has same_chunk y (slice_index_or (slice_set s.free c (insert same_chunk x a (free_of s c))) d []) ≡ false
put_lacks s c d x y a lt none some gone = elim (cases_Bool (has same_chunk y (slice_index_or (slice_set s.free c (insert same_chunk x a (free_of s c))) d []))) [
  | inl h ↦ elim (in_set same_chunk s.free c d (insert same_chunk x a (free_of s c)) y lt h) [
    | inl e ↦ elim (has-insert_inv same_chunk tells_chunk x y a (free_of s c) e.1) [
      | inl f ↦ absurd (false≢true (sym (ap is_some (ap (item_at s) f ∙ none)) ∙ some))
      | inr f ↦ absurd (true≢false (sym f ∙ gone c))
    ]
    | inr e ↦ absurd (true≢false (sym e ∙ gone d))
  ]
  | inr h ↦ h
]

-- a chunk of the class that holds nothing may enter its free list
pub keeps-put_free : (s : State) → WellFormed s → (c : ℕ) (x : ChunkRef) (a : Option ChunkRef) → Ready (Puts (ToFree c x a)) s → IsChunkOf s.fixed s.owner c x → item_at s x ≡ None → Possible (Puts (ToFree c x a)) s
keeps-put_free s well c x a r chunk none =
    let l = free_of s c in
    let m = insert same_chunk x a l in
    record {
      ready = r;
      after = record {
        lists = record {
          free_length = length-set s.free c m ∙ well.lists.free_length;
          queues_length = well.lists.queues_length;
          free_of_class = λ d y h. elim (in_set same_chunk s.free c d m y r.0 h) [
            | inl e ↦ elim (has-insert_inv same_chunk tells_chunk x y a l e.1) [
              | inl f ↦ subst (λ k. IsChunkOf s.fixed s.owner k y) (sym e.0) (subst (IsChunkOf s.fixed s.owner c) (sym f) chunk)
              | inr f ↦ subst (λ k. IsChunkOf s.fixed s.owner k y) (sym e.0) (well.lists.free_of_class c y f)
            ]
            | inr e ↦ well.lists.free_of_class d y e
          ];
          queued_of_class = well.lists.queued_of_class;
          once = λ y. put_once s well c x m y r.1 (sum_by-set (count same_chunk y) s.free c m [] r.0) (count-insert same_chunk tells_chunk x y a l);
          one_mark = well.lists.one_mark;
        };
        filled = record {
          queued_items = well.filled.queued_items;
          items = λ y h. ((well.filled.items y h).0, λ d. put_lacks s c d x y a r.0 none h ((well.filled.items y h).1));
        };
        index = well.index;
        owned = well.owned;
        bump = well.bump;
        counters = well.counters;
      };
    }

pub keeps-take_queue : (s : State) → WellFormed s → (c : ℕ) (q : Queue) (e : Entry) → Ready (Takes (InQueue c q e)) s → Possible (Takes (InQueue c q e)) s
keeps-take_queue s well c q e r =
    let l = queue_of s c q in
    let n = queue_place c q in
    let m = without same_entry e l in
    let sub : (z : Entry) → has same_entry z (without same_entry e l) ≡ true → has same_entry z l ≡ true = λ z h. has-without_sub same_entry tells_entry e z l h in
    let fewer : count same_entry Mark (without same_entry e l) ≤ 1 = omega (arith, count-without_le same_entry tells_entry e Mark l, well.lists.one_mark n) in
    record {
      ready = r;
      after = record {
        lists = record {
          free_length = well.lists.free_length;
          queues_length = length-set s.queues n m ∙ well.lists.queues_length;
          free_of_class = well.lists.free_of_class;
          queued_of_class = λ d p y h. well.lists.queued_of_class d p y (shrunk same_entry s.queues n (queue_place d p) m (Chunk y) r.0 sub h);
          once = λ y. omega (arith, well.lists.once y, sum_by-set (count same_entry (Chunk y)) s.queues n m [] r.0, count-without_le same_entry tells_entry e (Chunk y) l);
          one_mark = λ p. member_count same_entry s.queues n p m Mark 1 r.0 fewer (well.lists.one_mark p);
        };
        filled = record {
          queued_items = λ p y h. well.filled.queued_items p y (shrunk same_entry s.queues n p m (Chunk y) r.0 sub h);
          items = well.filled.items;
        };
        index = well.index;
        owned = well.owned;
        bump = well.bump;
        counters = well.counters;
      };
    }

number_below : (q : Queue) → queue_number q < 4
number_below Hot = omega arith
number_below Warm = omega arith
number_below Cold = omega arith
number_below Temp = omega arith

class_of_place : (c d : ℕ) (q p : Queue) → queue_place d p ≡ queue_place c q → d ≡ c
class_of_place c d q p e = omega (arith, e, number_below q, number_below p)

chunk_inj : (x y : ChunkRef) → Chunk x ≡ Chunk y → x ≡ y
chunk_inj x y e = cc

-- what an entry must be to enter a queue of the class
abbrev pub MayStand : State → ℕ → Entry → Type 0
MayStand s c (Chunk x) = IsChunkOf s.fixed s.owner c x × (is_some (item_at s x) ≡ true)
MayStand s c Mark = Unit {0}

entered_is : (s : State) (c : ℕ) (e : Entry) (y : ChunkRef) → Chunk y ≡ e → MayStand s c e → IsChunkOf s.fixed s.owner c y
entered_is s c (Chunk x) y f may = subst (IsChunkOf s.fixed s.owner c) (sym (chunk_inj y x f)) may.0
entered_is s c Mark y f may = absurd (cc)

entered_some : (s : State) (c : ℕ) (e : Entry) (y : ChunkRef) → Chunk y ≡ e → MayStand s c e → is_some (item_at s y) ≡ true
entered_some s c (Chunk x) y f may = ap (λ k. is_some (item_at s k)) (chunk_inj y x f) ∙ may.1
entered_some s c Mark y f may = absurd (cc)

put_of_class : (s : State) → WellFormed s → (c d : ℕ) (q p : Queue) (e : Entry) (a : Option Entry) (y : ChunkRef) → queue_place c q < length s.queues → MayStand s c e → has same_entry (Chunk y) (slice_index_or (slice_set s.queues (queue_place c q) (insert same_entry e a (queue_of s c q))) (queue_place d p) []) ≡ true → IsChunkOf s.fixed s.owner d y
put_of_class s well c d q p e a y lt may h = elim (in_set same_entry s.queues (queue_place c q) (queue_place d p) (insert same_entry e a (queue_of s c q)) (Chunk y) lt h) [
  | inl g ↦ subst (λ k. IsChunkOf s.fixed s.owner k y) (sym (class_of_place c d q p g.0)) (elim (has-insert_inv same_entry tells_entry e (Chunk y) a (queue_of s c q) g.1) [
    | inl f ↦ entered_is s c e y f may
    | inr f ↦ well.lists.queued_of_class c q y f
  ])
  | inr g ↦ well.lists.queued_of_class d p y g
]

put_items : (s : State) → WellFormed s → (c : ℕ) (q : Queue) (p : ℕ) (e : Entry) (a : Option Entry) (y : ChunkRef) → queue_place c q < length s.queues → MayStand s c e → has same_entry (Chunk y) (slice_index_or (slice_set s.queues (queue_place c q) (insert same_entry e a (queue_of s c q))) p []) ≡ true → is_some (item_at s y) ≡ true
put_items s well c q p e a y lt may h = elim (in_set same_entry s.queues (queue_place c q) p (insert same_entry e a (queue_of s c q)) (Chunk y) lt h) [
  | inl g ↦ elim (has-insert_inv same_entry tells_entry e (Chunk y) a (queue_of s c q) g.1) [
    | inl f ↦ entered_some s c e y f may
    | inr f ↦ well.filled.queued_items (queue_place c q) y f
  ]
  | inr g ↦ well.filled.queued_items p y g
]

put_few : (s : State) → WellFormed s → (c : ℕ) (q : Queue) (e : Entry) (m : List Entry) (y : ChunkRef) → MayEnter s c q e → sum_by (count same_entry (Chunk y)) (slice_set s.queues (queue_place c q) m) + count same_entry (Chunk y) (queue_of s c q) ≡ sum_by (count same_entry (Chunk y)) s.queues + count same_entry (Chunk y) m → count same_entry (Chunk y) m ≡ count same_entry (Chunk y) (queue_of s c q) + cond (same_entry (Chunk y) e) 1 0 → stands_in s.free (slice_set s.queues (queue_place c q) m) y ≤ 1
put_few s well c q (Chunk x) m y none sum put = elim (cases_Bool (same_chunk y x)) [
  | inl e ↦
      let n : stands s y ≡ 0 = ap (stands s) (tells_chunk.exact y x e) ∙ none in
      let k : count same_entry (Chunk y) m ≡ count same_entry (Chunk y) (queue_of s c q) + 1 = rw e at put in
      omega (arith, n, sum, k)
  | inr e ↦
      let k : count same_entry (Chunk y) m ≡ count same_entry (Chunk y) (queue_of s c q) + 0 = rw e at put in
      omega (arith, well.lists.once y, sum, k)
]
put_few s well c q Mark m y none sum put = omega (arith, well.lists.once y, sum, put)

put_marks : (s : State) → WellFormed s → (c : ℕ) (q : Queue) (e : Entry) (m : List Entry) → MayEnter s c q e → count same_entry Mark m ≡ count same_entry Mark (queue_of s c q) + cond (same_entry Mark e) 1 0 → count same_entry Mark m ≤ 1
put_marks s well c q (Chunk x) m none put = omega (arith, put, well.lists.one_mark (queue_place c q))
put_marks s well c q Mark m none put = omega (arith, put, no_count same_entry Mark (queue_of s c q) none)

pub keeps-put_queue : (s : State) → WellFormed s → (c : ℕ) (q : Queue) (e : Entry) (a : Option Entry) → Ready (Puts (ToQueue c q e a)) s → MayStand s c e → Possible (Puts (ToQueue c q e a)) s
keeps-put_queue s well c q e a r may =
    let l = queue_of s c q in
    let n = queue_place c q in
    let m = insert same_entry e a l in
    record {
      ready = r;
      after = record {
        lists = record {
          free_length = well.lists.free_length;
          queues_length = length-set s.queues n m ∙ well.lists.queues_length;
          free_of_class = well.lists.free_of_class;
          queued_of_class = λ d p y h. put_of_class s well c d q p e a y r.0 may h;
          once = λ y. put_few s well c q e m y r.1 (sum_by-set (count same_entry (Chunk y)) s.queues n m [] r.0) (count-insert same_entry tells_entry e (Chunk y) a l);
          one_mark = λ p. member_count same_entry s.queues n p m Mark 1 r.0 (put_marks s well c q e m r.1 (count-insert same_entry tells_entry e Mark a l)) (well.lists.one_mark p);
        };
        filled = record {
          queued_items = λ p y h. put_items s well c q p e a y r.0 may h;
          items = well.filled.items;
        };
        index = well.index;
        owned = well.owned;
        bump = well.bump;
        counters = well.counters;
      };
    }

-- a chunk that stands nowhere may be filled; one that a key leads to keeps that key
pub keeps-fill : (s : State) → WellFormed s → (x : ChunkRef) (o : Option PlainItem) → Ready (Fills x o) s → ((k : List ℕ) → find s k ≡ Some x → (i : PlainItem) × (o ≡ Some i) × (i.key ≡ k)) → Possible (Fills x o) s
keeps-fill s well x o r key =
    let got : (y : ChunkRef) → map.get (put_at s.content x o) y ≡ cond (eq_by_cmp chunk_cmp y x) o (map.get s.content y) = λ y. get-put_at chunk_cmp_total chunk_cmp_exact s.content x o y in
    record {
      ready = r;
      after = record {
        lists = well.lists;
        filled = record {
          queued_items = λ p y h. elim (cases_Bool (eq_by_cmp chunk_cmp y x)) [
            | inl e ↦ absurd (stands_not s p x r.1 (ap (λ k. has same_entry (Chunk k) (slice_index_or s.queues p [])) (sym (tied chunk_cmp_total chunk_cmp_exact y x e)) ∙ h))
            | inr e ↦ ap is_some (got y ∙ ap (λ b. cond b o (map.get s.content y)) e) ∙ well.filled.queued_items p y h
          ];
          items = λ y h. elim (cases_Bool (eq_by_cmp chunk_cmp y x)) [
            | inl e ↦ subst (λ z. IsChunkOf s.fixed s.owner (owner_of s z.page) z × ((c : ℕ) → has same_chunk z (free_of s c) ≡ false)) (sym (tied chunk_cmp_total chunk_cmp_exact y x e)) (r.0, λ c. free_lacks s c x r.1)
            | inr e ↦ well.filled.items y (sym (ap is_some (got y ∙ ap (λ b. cond b o (map.get s.content y)) e)) ∙ h)
          ];
        };
        index = record {
          indexed = λ k y h. elim (cases_Bool (eq_by_cmp chunk_cmp y x)) [
            | inl e ↦
                let is = tied chunk_cmp_total chunk_cmp_exact y x e in
                let w = key k (h ∙ ap Some is) in
                (w.0, got y ∙ ap (λ b. cond b o (map.get s.content y)) e ∙ w.1, w.2)
            | inr e ↦
                let w = well.index.indexed k y h in
                (w.0, got y ∙ ap (λ b. cond b o (map.get s.content y)) e ∙ w.1, w.2)
          ];
        };
        owned = well.owned;
        bump = well.bump;
        counters = well.counters;
      };
    }

pub keeps-count : (s : State) → WellFormed s → (c : ℕ) (k : Counter) (v : ℕ) → Ready (Counts c k v) s → Possible (Counts c k v) s
keeps-count s well c k v r = record {
  ready = r;
  after = record { lists = well.lists; filled = well.filled; index = well.index; owned = well.owned; bump = well.bump; counters = length-set s.counters (counter_place c k) v ∙ well.counters };
}

pub keeps-sets : (s : State) → WellFormed s → (p : GlobalPart) → Possible (Sets p) s
keeps-sets s well p = record {
  ready = tt;
  after = record { lists = well.lists; filled = well.filled; index = well.index; owned = well.owned; bump = well.bump; counters = well.counters };
}

keys_exact : map.IsAntisymmetric (slice_cmp nat_cmp)
keys_exact = map.slice_cmp-IsAntisymmetric map.nat_cmp-IsAntisymmetric

some_inj : (x y : ChunkRef) → Some x ≡ Some y → x ≡ y
some_inj x y e = cc

none_some : (y : ChunkRef) → None ≡ Some y → ⊥
none_some y e = cc

pub keeps-bind : (s : State) → WellFormed s → (x : ChunkRef) → Ready (Binds x) s → Possible (Binds x) s
keeps-bind s well x (i, e, none) =
    let got : (k : List ℕ) → map.get (map.insert s.index i.key x) k ≡ cond (eq_by_cmp (slice_cmp nat_cmp) k i.key) (Some x) (map.get s.index k) = λ k. map.get-insert nat_list_cmp_total s.index i.key x k in
    let t = record s { index = map.insert s.index i.key x } in
    let w : WellFormed (record s { index = map.insert s.index i.key x }) = record {
      lists = well.lists;
      filled = well.filled;
      index = record {
        indexed = λ k y h. elim (cases_Bool (eq_by_cmp (slice_cmp nat_cmp) k i.key)) [
          | inl f ↦
              let is : x ≡ y = some_inj x y (sym (got k ∙ ap (λ b. cond b (Some x) (map.get s.index k)) f) ∙ h) in
              (i, ap (item_at s) (sym is) ∙ e, sym (tied nat_list_cmp_total keys_exact k i.key f))
          | inr f ↦ well.index.indexed k y (sym (got k ∙ ap (λ b. cond b (Some x) (map.get s.index k)) f) ∙ h)
        ];
      };
      owned = well.owned;
      bump = well.bump;
      counters = well.counters;
    } in
    record { ready = (i, e, none); after = rw e w }

pub keeps-unbind : (s : State) → WellFormed s → (x : ChunkRef) → Ready (Unbinds x) s → Possible (Unbinds x) s
keeps-unbind s well x (i, e, there) =
    let got : (k : List ℕ) → map.get (map.remove s.index i.key) k ≡ cond (eq_by_cmp (slice_cmp nat_cmp) k i.key) None (map.get s.index k) = λ k. map.get-remove nat_list_cmp_total s.index i.key k in
    let w : WellFormed (record s { index = map.remove s.index i.key }) = record {
      lists = well.lists;
      filled = well.filled;
      index = record {
        indexed = λ k y h. elim (cases_Bool (eq_by_cmp (slice_cmp nat_cmp) k i.key)) [
          | inl f ↦ absurd (none_some y (sym (got k ∙ ap (λ b. cond b None (map.get s.index k)) f) ∙ h))
          | inr f ↦ well.index.indexed k y (sym (got k ∙ ap (λ b. cond b None (map.get s.index k)) f) ∙ h)
        ];
      };
      owned = well.owned;
      bump = well.bump;
      counters = well.counters;
    } in
    record { ready = (i, e, there); after = rw e w }

-- a chunk that left a queue may enter at the head of any queue of its class
pub keeps-to_head : (s : State) → WellFormed s → (c : ℕ) (q p : Queue) (x : ChunkRef) → Ready (Takes (InQueue c q (Chunk x))) s → queue_place c p < length s.queues → Possible (Puts (ToQueue c p (Chunk x) None)) (moved (Takes (InQueue c q (Chunk x))) s)
keeps-to_head s well c q p x r lt =
    let taken = keeps-take_queue s well c q (Chunk x) r in
    let u = undo (Takes (InQueue c q (Chunk x))) s well r in
    keeps-put_queue (moved (Takes (InQueue c q (Chunk x))) s) taken.after c p (Chunk x) None
    (rw length-set lt, u.ready.1, refl)
    (well.lists.queued_of_class c q x r.1, well.filled.queued_items (queue_place c q) x r.1)
