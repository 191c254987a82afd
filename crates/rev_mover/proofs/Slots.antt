-- The chunk at the mover's slot leaves its list, and is withdrawn.
use Rattle.std.specs.Prelude.{ℕ, ◌≡◌, ◌+◌, ◌<◌, ◌≤◌, true, false, cond, nat_eq, nat_lt, List, [], ◌∷◌, None, Some, is_some, length, slice_index_or, suc}
use Rattle.std.specs.List.{sum_by}
use Rattle.std.proofs.Common.{sym, ◌∙◌, ap, subst, arith, inl, inr}
use Rattle.std.proofs.lemmas.Bool.{cases_Bool, false≢true, true≢false, and_parts, ltb-true}
use Rattle.std.proofs.lemmas.Bool.Decides.{nat_tests}
use Rattle.std.proofs.lemmas.List.Sums.{sum_by-set, sum_by-cons}
use Rattle.std.specs.FinMap as map
use Rattle.std.specs.Ordering.{eq_by_cmp, nat_cmp}
use Rattle.std.specs.Cmp.{eq_by_cmp_equiv}
use Rattle.std.specs.Cmp.Lexicographic.{slice_cmp, nat_list_cmp_total}
use Rattle.rev_items.specs.Plain.{PlainItem}
use Rattle.rev_model.specs.Chunk.{same_chunk, same_entry, chunk_cmp}
use Rattle.rev_model.proofs.Chunks.{chunk_cmp_exact, chunk_cmp_total}
use Rattle.rev_model.specs.Lists.{has, count, without}
use Rattle.rev_model.specs.State.{State, Fixed, IsChunkOf, free_of, queue_of, queue_place, owner_of, item_at, per_page, stands}
use Rattle.rev_model.specs.Move.{with_free}
use Rattle.rev_model.proofs.Undo.{tells_chunk, tells_entry, get-put_at, tied, count_none, sum_none}
use Rattle.rev_model.specs.Words.{unlinked, queue_with}
use Rattle.rev_model.specs.Sound.{Sound, EachPlaced, Stands, MoverSound, is_withdrawn}
use Rattle.rev_model.specs.declared.ChunkRef.{ChunkRef}
use Rattle.rev_model.specs.declared.Entry.{Entry}
use Rattle.rev_model.specs.declared.Entry.TheVariants.{Chunk}
use Rattle.rev_model.specs.declared.Queue.{Queue}
use Rattle.rev_model.specs.declared.Mover.{Mover}
use Rattle.rev_edits.proofs.Rest.{Rest}
use Rattle.rev_edits.proofs.Seats.{item_stands}
use Rattle.rev_mover.specs.Moving.{slot_chunk, next_mover, with_mover}

some_inj : {X : Type 0} (x y : X) → Some x ≡ Some y → x ≡ y
some_inj x y e = cc

none_some : {X : Type 0} (y : X) → None ≡ Some y → ⊥
none_some y e = cc

-- a chunk that a table counts stands in one of its lists
pub some_free : (x : ChunkRef) (table : List (List ChunkRef)) → 1 ≤ sum_by (count same_chunk x) table → (n : ℕ) × (has same_chunk x (slice_index_or table n []) ≡ true)
some_free x [] h = absurd (omega (arith, h))
some_free x (l ∷ ls) h = elim (cases_Bool (has same_chunk x l)) [
  | inl f ↦ (0, f)
  | inr f ↦
      let more : 1 ≤ sum_by (count same_chunk x) ls = omega (arith, count_none same_chunk x l f, rw (sum_by-cons (count same_chunk x) l ls) at h) in
      let w = some_free x ls more in
      (suc w.0, w.1)
]

-- ---- a free chunk is taken

pub free_count : (x : ChunkRef) (l : List ChunkRef) → has same_chunk x l ≡ true → (y : ChunkRef) → count same_chunk y l ≡ count same_chunk y (without same_chunk x l) + cond (same_chunk y x) 1 0
free_count x [] h y = absurd (false≢true h)
free_count x (z ∷ zs) h y = elim (cases_Bool (same_chunk x z)) [
  | inl e ↦ rw e (rw (sym (tells_chunk.exact x z e)) (omega arith))
  | inr e ↦
      let more : count same_chunk y zs ≡ count same_chunk y (without same_chunk x zs) + cond (same_chunk y x) 1 0 = free_count x zs (rw e at h) y in
      rw e (omega (arith, more))
]

pub rest-taken : (s : State) (c : ℕ) (x : ChunkRef) → c < length s.free → has same_chunk x (free_of s c) ≡ true → Rest None s → Rest (Some x) (with_free s c (without same_chunk x (free_of s c)))
rest-taken s c x lt there rest = record {
  placed = record { once = λ y k. omega (arith, rest.placed.once y k, free_count x (free_of s c) there y, sum_by-set (count same_chunk y) s.free c (without same_chunk x (free_of s c)) [] lt) };
  filed = rest.filed;
  kept = rest.kept;
}

-- ---- an item leaves, and its chunk is held

keys_exact : map.IsAntisymmetric (slice_cmp nat_cmp)
keys_exact = map.slice_cmp-IsAntisymmetric map.nat_cmp-IsAntisymmetric

self_cmp : (z : ChunkRef) → eq_by_cmp chunk_cmp z z ≡ true
self_cmp z = (eq_by_cmp_equiv chunk_cmp_total).refl z

queue_count : (x : ChunkRef) (es : List Entry) → has same_entry (Chunk x) es ≡ true → (y : ChunkRef) → count same_entry (Chunk y) es ≡ count same_entry (Chunk y) (without same_entry (Chunk x) es) + cond (same_chunk y x) 1 0
queue_count x [] h y = absurd (false≢true h)
queue_count x (d ∷ es) h y = elim (cases_Bool (same_entry (Chunk x) d)) [
  | inl e ↦ rw e (rw (sym (tells_entry.exact (Chunk x) d e)) (omega arith))
  | inr e ↦
      let more : count same_entry (Chunk y) es ≡ count same_entry (Chunk y) (without same_entry (Chunk x) es) + cond (same_chunk y x) 1 0 = queue_count x es (rw e at h) y in
      rw e (omega (arith, more))
]

apart : (x y : ChunkRef) → eq_by_cmp chunk_cmp y x ≡ false → same_chunk y x ≡ false
apart x y f = elim (cases_Bool (same_chunk y x)) [
  | inl e ↦ absurd (true≢false (sym (ap (λ z. eq_by_cmp chunk_cmp z x) (tells_chunk.exact y x e) ∙ self_cmp x) ∙ f))
  | inr e ↦ e
]

pub rest-unlinked : (s : State) (c : ℕ) (q : Queue) (x : ChunkRef) (i : PlainItem) → Stands s c q x i → Rest None s → Rest (Some x) (unlinked c q x i s)
rest-unlinked s c q x i at rest =
    let got : (y : ChunkRef) → map.get (map.remove s.content x) y ≡ cond (eq_by_cmp chunk_cmp y x) None (map.get s.content y) = λ y. get-put_at chunk_cmp_total chunk_cmp_exact s.content x None y in
    let out : (y : ChunkRef) → sum_by (count same_entry (Chunk y)) (unlinked c q x i s).queues + cond (same_chunk y x) 1 0 ≡ sum_by (count same_entry (Chunk y)) s.queues = λ y.
    omega (arith, sum_by-set (count same_entry (Chunk y)) s.queues (queue_place c q) (without same_entry (Chunk x) (queue_of s c q)) [] at.place, queue_count x (queue_of s c q) at.there y) in
    -- another item was there before
    let was : (y : ChunkRef) (j : PlainItem) → map.get (map.remove s.content x) y ≡ Some j → (map.get s.content y ≡ Some j) × (same_chunk y x ≡ false) = λ y j g. elim (cases_Bool (eq_by_cmp chunk_cmp y x)) [
      | inl f ↦ absurd (none_some j (sym (got y ∙ ap (λ b. cond b None (map.get s.content y)) f) ∙ g))
      | inr f ↦ (sym (got y ∙ ap (λ b. cond b None (map.get s.content y)) f) ∙ g, apart x y f)
    ] in
    record {
      placed = record { once = λ y k. omega (arith, rest.placed.once y k, out y) };
      filed = record {
        queued = λ y j g.
            let w = was y j g in
            let n : sum_by (count same_entry (Chunk y)) (unlinked c q x i s).queues + cond false 1 0 ≡ sum_by (count same_entry (Chunk y)) s.queues = subst (λ b. sum_by (count same_entry (Chunk y)) (unlinked c q x i s).queues + cond b 1 0 ≡ sum_by (count same_entry (Chunk y)) s.queues) w.1 (out y) in
            omega (arith, n, rest.filed.queued y j w.0);
        keyed = λ y j g.
            let w = was y j g in
            let there = rest.filed.keyed y j w.0 in
            map.get-remove nat_list_cmp_total s.index i.key j.key ∙ elim (cases_Bool (eq_by_cmp (slice_cmp nat_cmp) j.key i.key)) as (λ _. cond (eq_by_cmp (slice_cmp nat_cmp) j.key i.key) None (map.get s.index j.key) ≡ Some y) [
              | inl f ↦
                  let is : y ≡ x = some_inj y x (sym there ∙ ap (map.get s.index) (tied nat_list_cmp_total keys_exact j.key i.key f) ∙ at.key) in
                  absurd (true≢false (sym (tells_chunk.self x) ∙ ap (λ z. same_chunk z x) (sym is) ∙ w.1))
              | inr f ↦ rw f there
            ];
        class = λ y j g. rest.filed.class y j (was y j g).0;
      };
      kept = rest.kept;
    }

-- ---- the chunk at the slot is withdrawn

withdrawn_more : (m : Mover) (y : ChunkRef) → cond {A = ℕ} (is_withdrawn (Some (next_mover m)) y) 1 0 ≡ cond {A = ℕ} (is_withdrawn (Some m) y) 1 0 + cond {A = ℕ} (same_chunk y (slot_chunk m)) 1 0
withdrawn_more m y = elim (cases_Bool (nat_eq y.page m.page)) [
  | inr e ↦ rw e (omega arith)
  | inl e ↦ rw e (tests y.slot m.slot)
]
  where
    tests : (a b : ℕ) → cond {A = ℕ} (nat_lt a (b + 1)) 1 0 ≡ cond {A = ℕ} (nat_lt a b) 1 0 + cond {A = ℕ} (nat_eq a b) 1 0
    tests a b = grind (arith, nat_tests)

-- the chunk that a step holds is the one at the slot: withdrawn, nothing is held any more
pub rest-withdrawn : (t : State) (m : Mover) → t.globals.mover ≡ Some m → m.slot < per_page t.fixed m.src → Rest (Some (slot_chunk m)) t → Rest None (with_mover (Some (next_mover m)) t)
rest-withdrawn t m e lt rest =
    let placed : EachPlaced t.fixed t.owner t.free t.queues (Some m) (Some (slot_chunk m)) = subst (λ o. EachPlaced t.fixed t.owner t.free t.queues o (Some (slot_chunk m))) e rest.placed in
    let mover : MoverSound t.fixed t.owner (Some m) = subst (MoverSound t.fixed t.owner) e rest.kept.mover in
    record {
      placed = record { once = λ y k. omega (arith, placed.once y k, withdrawn_more m y) };
      filed = rest.filed;
      kept = record { mover = (mover.0, mover.1, mover.2, mover.3, mover.4, mover.5, omega (arith, lt), mover.7); pages = rest.kept.pages; settings = rest.kept.settings; table = rest.kept.table };
    }

-- ---- what the chunk at the slot is

-- while slots are left, it is a chunk of the source
pub slot_of_source : (f : Fixed) (owner : List ℕ) (m : Mover) → MoverSound f owner (Some m) → m.slot < per_page f m.src → IsChunkOf f owner m.src (slot_chunk m)
slot_of_source f owner m h lt = record { class = h.0; page = h.4; owned = h.5; slot = lt }

not_withdrawn : (m : Mover) → is_withdrawn (Some m) (slot_chunk m) ≡ false
not_withdrawn m = elim (cases_Bool (is_withdrawn (Some m) (slot_chunk m))) [
  | inl e ↦
      let below : m.slot < m.slot = ltb-true m.slot m.slot (and_parts (nat_eq m.page m.page) (nat_lt m.slot m.slot) e).1 in
      absurd (omega (arith, below))
  | inr e ↦ e
]

-- without an item it is free
pub slot_is_free : (s : State) (m : Mover) → Sound s → s.globals.mover ≡ Some m → m.slot < per_page s.fixed m.src → item_at s (slot_chunk m) ≡ None → has same_chunk (slot_chunk m) (free_of s m.src) ≡ true
slot_is_free s m sound e lt none =
    let x = slot_chunk m in
    let mover : MoverSound s.fixed s.owner (Some m) = subst (MoverSound s.fixed s.owner) e sound.kept.mover in
    let placed : EachPlaced s.fixed s.owner s.free s.queues (Some m) None = subst (λ o. EachPlaced s.fixed s.owner s.free s.queues o None) e sound.placed in
    let chunk = slot_of_source s.fixed s.owner m mover lt in
    let own : IsChunkOf s.fixed s.owner (owner_of s m.page) (slot_chunk m) = subst (λ k. IsChunkOf s.fixed s.owner k (slot_chunk m)) (sym chunk.owned) chunk in
    let once : stands s (slot_chunk m) + (0 + 0) ≡ 1 = rw (not_withdrawn m) at (placed.once (slot_chunk m) own) in
    let queued : sum_by (count same_entry (Chunk (slot_chunk m))) s.queues ≡ 0 = sum_none same_entry (Chunk x) s.queues (λ p. lacks x p none) in
    let w = some_free x s.free (omega (arith, once, queued)) in
    let is : w.0 ≡ m.src = sym (sound.well.lists.free_of_class w.0 x w.1).owned ∙ chunk.owned in
    ap (λ c. has same_chunk (slot_chunk m) (free_of s c)) (sym is) ∙ w.1
  where
    lacks : (x : ChunkRef) (p : ℕ) → item_at s x ≡ None → has same_entry (Chunk x) (slice_index_or s.queues p []) ≡ false
    lacks x p none = elim (cases_Bool (has same_entry (Chunk x) (slice_index_or s.queues p []))) [
      | inl h ↦ absurd (false≢true (sym (ap is_some none) ∙ sound.well.filled.queued_items p x h))
      | inr h ↦ h
    ]

-- with an item it stands in a queue of its class
pub chunk_stands : (s : State) → Sound s → (c : ℕ) (x : ChunkRef) (i : PlainItem) → IsChunkOf s.fixed s.owner c x → item_at s x ≡ Some i → Stands s c (queue_with s c x) x i
chunk_stands s sound c x i k e = subst (λ d. Stands s d (queue_with s d x) x i) k.owned (item_stands None s sound x i e)
