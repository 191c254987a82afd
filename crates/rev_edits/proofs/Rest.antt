-- What steps are made of keeps a store sound.
use Rattle.std.specs.Prelude.{ℕ, ◌≡◌, ◌+◌, ◌<◌, true, false, cond, List, [], ◌∷◌, Option, None, Some, length, refl}
use Rattle.std.specs.List.{sum_by}
use Rattle.std.proofs.Common.{sym, ◌∙◌, ap, subst, arith, inl, inr}
use Rattle.std.proofs.lemmas.Bool.{cases_Bool, false≢true, true≢false}
use Rattle.std.proofs.lemmas.List.{length-set}
use Rattle.std.proofs.lemmas.List.Sums.{sum_by-set}
use Rattle.std.specs.FinMap as map
use Rattle.std.specs.Ordering.{eq_by_cmp, nat_cmp}
use Rattle.std.specs.Cmp.{eq_by_cmp_equiv}
use Rattle.std.specs.Cmp.Lexicographic.{slice_cmp, nat_list_cmp_total}
use Rattle.rev_items.specs.Plain.{PlainItem}
use Rattle.rev_model.specs.Chunk.{same_chunk, same_entry, chunk_cmp}
use Rattle.rev_model.proofs.Chunks.{chunk_cmp_exact, chunk_cmp_total}
use Rattle.rev_model.specs.Lists.{has, count, without}
use Rattle.rev_model.specs.State.{State, WellFormed, free_of, queue_of, queue_place, item_at}
use Rattle.rev_model.specs.Move.{touched}
use Rattle.rev_model.proofs.Undo.{tells_chunk, tells_entry, get-put_at, tied}
use Rattle.rev_model.specs.declared.ChunkRef.{ChunkRef}
use Rattle.rev_model.specs.declared.Entry.{Entry}
use Rattle.rev_model.specs.declared.Entry.TheVariants.{Chunk}
use Rattle.rev_model.specs.declared.Queue.{Queue}
use Rattle.rev_model.specs.declared.Counter.{Counter}
use Rattle.rev_model.specs.declared.Touched.{Touched}
use Rattle.rev_model.specs.Words.{dropped, counted, left, headed, with_item}
use Rattle.rev_model.specs.Sound.{SoundBut, EachPlaced, Filed, Kept, Stands}

some_inj : {X : Type 0} (x y : X) → Some x ≡ Some y → x ≡ y
some_inj x y e = cc

-- what a sound state has beside being well formed
pub record Rest (h : Option ChunkRef) (s : State) : Type 0 where
  pub placed : EachPlaced s.fixed s.owner s.free s.queues s.globals.mover h
  pub filed : Filed s.fixed s.owner s.queues s.content s.index
  pub kept : Kept s.fixed s.owner s.globals.mover s.globals.settings

pub rest_of : (h : Option ChunkRef) (s : State) → SoundBut h s → Rest h s
rest_of h s sound = record { placed = sound.placed; filed = sound.filed; kept = sound.kept }

pub sound_of : (h : Option ChunkRef) (s : State) → WellFormed s → Rest h s → SoundBut h s
sound_of h s well rest = record { well = well; placed = rest.placed; filed = rest.filed; kept = rest.kept }

-- a counter
pub rest-counted : (h : Option ChunkRef) (s : State) (c : ℕ) (k : Counter) → Rest h s → Rest h (counted c k s)
rest-counted h s c k sound = record { placed = sound.placed; filed = sound.filed; kept = sound.kept }

keys_exact : map.IsAntisymmetric (slice_cmp nat_cmp)
keys_exact = map.slice_cmp-IsAntisymmetric map.nat_cmp-IsAntisymmetric

self_cmp : (z : ChunkRef) → eq_by_cmp chunk_cmp z z ≡ true
self_cmp z = (eq_by_cmp_equiv chunk_cmp_total).refl z

counted_out : (x : ChunkRef) (es : List Entry) → has same_entry (Chunk x) es ≡ true → (y : ChunkRef) → count same_entry (Chunk y) es ≡ count same_entry (Chunk y) (without same_entry (Chunk x) es) + cond (same_chunk y x) 1 0
counted_out x [] h y = absurd (false≢true h)
counted_out x (d ∷ es) h y = elim (cases_Bool (same_entry (Chunk x) d)) [
  | inl e ↦ rw e (rw (sym (tells_entry.exact (Chunk x) d e)) (omega arith))
  | inr e ↦ let more : count same_entry (Chunk y) es ≡ count same_entry (Chunk y) (without same_entry (Chunk x) es) + cond (same_chunk y x) 1 0 = counted_out x es (rw e at h) y in rw e (omega (arith, more))
]

-- bits, time and moment of an item
pub rest-touched : (h : Option ChunkRef) (s : State) (x : ChunkRef) (t : Touched) (i : PlainItem) → item_at s x ≡ Some i → Rest h s → Rest h (with_item x (touched t i) s)
rest-touched h s x t i e sound =
    let got : (y : ChunkRef) → map.get (map.insert s.content x (touched t i)) y ≡ cond (eq_by_cmp chunk_cmp y x) (Some (touched t i)) (map.get s.content y) = λ y. get-put_at chunk_cmp_total chunk_cmp_exact s.content x (Some (touched t i)) y in
    -- what the chunk holds now, but for these three, it held before
    let was : (y : ChunkRef) (j : PlainItem) → map.get (map.insert s.content x (touched t i)) y ≡ Some j → (o : PlainItem) × (map.get s.content y ≡ Some o) × (o.key ≡ j.key) × (o.flags ≡ j.flags) × (o.value ≡ j.value) = λ y j g. elim (cases_Bool (eq_by_cmp chunk_cmp y x)) [
      | inl f ↦
          let is : touched t i ≡ j = some_inj (touched t i) j (sym (got y ∙ ap (λ b. cond b (Some (touched t i)) (map.get s.content y)) f) ∙ g) in
          (i, ap (item_at s) (tied chunk_cmp_total chunk_cmp_exact y x f) ∙ e, ap (λ (z : PlainItem). z.key) is, ap (λ (z : PlainItem). z.flags) is, ap (λ (z : PlainItem). z.value) is)
      | inr f ↦ (j, sym (got y ∙ ap (λ b. cond b (Some (touched t i)) (map.get s.content y)) f) ∙ g, refl, refl, refl)
    ] in
    record {
      placed = sound.placed;
      filed = record {
        queued = λ y j g. let o = was y j g in sound.filed.queued y o.0 o.1;
        keyed = λ y j g. let o = was y j g in ap (map.get s.index) (sym o.2) ∙ sound.filed.keyed y o.0 o.1;
        class = λ y j g. let o = was y j g in rw (sym o.2, sym o.3, sym o.4) (sound.filed.class y o.0 o.1);
      };
      kept = sound.kept;
    }

-- the count of a chunk in the queues, after an entry went to a queue's head
module _ (s : State) (c : ℕ) (q p : Queue) (x : ChunkRef) where
  headed_count : queue_place c q < length s.queues → queue_place c p < length s.queues → has same_entry (Chunk x) (queue_of s c q) ≡ true → (y : ChunkRef) → sum_by (count same_entry (Chunk y)) (headed c q p x s).queues ≡ sum_by (count same_entry (Chunk y)) s.queues
  headed_count lt lp there y =
      let f = count same_entry (Chunk y) in
      let l = left c q x s in
      let one : sum_by (count same_entry (Chunk y)) (left c q x s).queues + count same_entry (Chunk y) (queue_of s c q) ≡ sum_by (count same_entry (Chunk y)) s.queues + count same_entry (Chunk y) (without same_entry (Chunk x) (queue_of s c q)) = sum_by-set f s.queues (queue_place c q) (without same_entry (Chunk x) (queue_of s c q)) [] lt in
      let two : sum_by (count same_entry (Chunk y)) (headed c q p x s).queues + count same_entry (Chunk y) (queue_of l c p) ≡ sum_by (count same_entry (Chunk y)) l.queues + count same_entry (Chunk y) (Chunk x ∷ queue_of l c p) = sum_by-set f l.queues (queue_place c p) (Chunk x ∷ queue_of l c p) [] (rw length-set lp) in
      let out : count same_entry (Chunk y) (queue_of s c q) ≡ count same_entry (Chunk y) (without same_entry (Chunk x) (queue_of s c q)) + cond (same_chunk y x) 1 0 = counted_out x (queue_of s c q) there y in
      omega (arith, one, two, out)

  pub rest-headed : (h : Option ChunkRef) → queue_place c q < length s.queues → queue_place c p < length s.queues → has same_entry (Chunk x) (queue_of s c q) ≡ true → Rest h s → Rest h (headed c q p x s)
  rest-headed h lt lp there sound = record {
    placed = record { once = λ y k. omega (arith, sound.placed.once y k, headed_count lt lp there y) };
    filed = record {
      queued = λ y j g. headed_count lt lp there y ∙ sound.filed.queued y j g;
      keyed = sound.filed.keyed;
      class = sound.filed.class;
    };
    kept = sound.kept;
  }

-- an item leaves and its chunk is free
module _ (s : State) (c : ℕ) (q : Queue) (x : ChunkRef) (i : PlainItem) where
  pub rest-dropped : (h : Option ChunkRef) → Stands s c q x i → Rest h s → Rest h (dropped c q x i s)
  rest-dropped h at sound =
      let got : (y : ChunkRef) → map.get (map.remove s.content x) y ≡ cond (eq_by_cmp chunk_cmp y x) None (map.get s.content y) = λ y. get-put_at chunk_cmp_total chunk_cmp_exact s.content x None y in
      let out : (y : ChunkRef) → sum_by (count same_entry (Chunk y)) (dropped c q x i s).queues + cond (same_chunk y x) 1 0 ≡ sum_by (count same_entry (Chunk y)) s.queues = λ y.
      omega (arith, sum_by-set (count same_entry (Chunk y)) s.queues (queue_place c q) (without same_entry (Chunk x) (queue_of s c q)) [] at.place, counted_out x (queue_of s c q) at.there y) in
      -- another item was there before
      let was : (y : ChunkRef) (j : PlainItem) → map.get (map.remove s.content x) y ≡ Some j → (map.get s.content y ≡ Some j) × (same_chunk y x ≡ false) = λ y j g. elim (cases_Bool (eq_by_cmp chunk_cmp y x)) [
        | inl f ↦ absurd (none_some j (sym (got y ∙ ap (λ b. cond b None (map.get s.content y)) f) ∙ g))
        | inr f ↦ (sym (got y ∙ ap (λ b. cond b None (map.get s.content y)) f) ∙ g, apart y f)
      ] in
      record {
        placed = record { once = λ y k. omega (arith, sound.placed.once y k, out y, sum_by-set (count same_chunk y) s.free c (x ∷ free_of s c) [] at.class) };
        filed = record {
          queued = λ y j g. let w = was y j g in let n : sum_by (count same_entry (Chunk y)) (dropped c q x i s).queues + cond false 1 0 ≡ sum_by (count same_entry (Chunk y)) s.queues = subst (λ b. sum_by (count same_entry (Chunk y)) (dropped c q x i s).queues + cond b 1 0 ≡ sum_by (count same_entry (Chunk y)) s.queues) w.1 (out y) in omega (arith, n, sound.filed.queued y j w.0);
          keyed = λ y j g.
              let w = was y j g in
              let there = sound.filed.keyed y j w.0 in
              map.get-remove nat_list_cmp_total s.index i.key j.key ∙ elim (cases_Bool (eq_by_cmp (slice_cmp nat_cmp) j.key i.key)) as (λ _. cond (eq_by_cmp (slice_cmp nat_cmp) j.key i.key) None (map.get s.index j.key) ≡ Some y) [
                | inl f ↦
                    let is : y ≡ x = some_inj y x (sym there ∙ ap (map.get s.index) (tied nat_list_cmp_total keys_exact j.key i.key f) ∙ at.key) in
                    absurd (true≢false (sym (tells_chunk.self x) ∙ ap (λ z. same_chunk z x) (sym is) ∙ w.1))
                | inr f ↦ rw f there
              ];
          class = λ y j g. sound.filed.class y j (was y j g).0;
        };
        kept = sound.kept;
      }
    where
      none_some : (j : PlainItem) → None ≡ Some j → ⊥
      none_some j e = cc

      apart : (y : ChunkRef) → eq_by_cmp chunk_cmp y x ≡ false → same_chunk y x ≡ false
      apart y f = elim (cases_Bool (same_chunk y x)) [
        | inl e ↦ absurd (true≢false (sym (ap (λ z. eq_by_cmp chunk_cmp z x) (tells_chunk.exact y x e) ∙ self_cmp x) ∙ f))
        | inr e ↦ e
      ]
