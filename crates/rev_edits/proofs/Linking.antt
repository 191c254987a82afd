-- The moves by which a new item enters are possible, and the store is then sound.
use Rattle.std.specs.Prelude.{ℕ, ◌≡◌, ◌+◌, true, false, cond, List, [], ◌∷◌, None, Some, is_some, slice_index_or, refl}
use Rattle.std.specs.List.{sum_by}
use Rattle.std.proofs.Common.{sym, ◌∙◌, ap, subst, arith, inl, inr}
use Rattle.std.proofs.lemmas.Bool.{cases_Bool}
use Rattle.std.proofs.lemmas.List.Sums.{sum_by-set}
use Rattle.std.specs.FinMap as map
use Rattle.std.specs.Ordering.{eq_by_cmp, nat_cmp}
use Rattle.std.specs.Cmp.Lexicographic.{slice_cmp, nat_list_cmp_total}
use Rattle.rev_items.specs.Plain.{PlainItem}
use Rattle.rev_model.specs.Chunk.{same_chunk, same_entry, chunk_cmp}
use Rattle.rev_model.proofs.Chunks.{chunk_cmp_exact, chunk_cmp_total}
use Rattle.rev_model.specs.Lists.{count}
use Rattle.rev_model.specs.State.{State, WellFormed, IsChunkOf, queue_place, owner_of, item_at, stands, IsClass}
use Rattle.rev_model.specs.declared.GlobalPart.TheVariants.{LastCas}
use Rattle.rev_model.specs.Move.{Puts, Fills, Binds, Sets, moved, Possible}
use Rattle.rev_model.proofs.Undo.{tells_chunk, get-put_at, get-put_at_same, tied}
use Rattle.rev_model.proofs.Keeps.{keeps-fill, keeps-bind, keeps-put_queue, keeps-sets}
use Rattle.rev_model.specs.declared.ChunkRef.{ChunkRef}
use Rattle.rev_model.specs.declared.Entry.TheVariants.{Chunk}
use Rattle.rev_model.specs.declared.Queue.{Queue}
use Rattle.rev_model.specs.declared.Placed.TheVariants.{ToQueue}
use Rattle.rev_model.specs.Words.{linked, with_item, queue_for, class_of}
use Rattle.rev_items.specs.Rules.{footprint_of}
use Rattle.rev_model.specs.Sound.{SoundBut, Loose}
use Rattle.rev_model.proofs.Places.{queue_in, free_in}
use Rattle.rev_edits.proofs.Rest.{Rest}
use Rattle.rev_edits.specs.Linking.{Fresh}

some_inj : {X : Type 0} (x y : X) → Some x ≡ Some y → x ≡ y
some_inj x y e = cc

none_some : {X : Type 0} (y : X) → None ≡ Some y → ⊥
none_some y e = cc

keys_exact : map.IsAntisymmetric (slice_cmp nat_cmp)
keys_exact = map.slice_cmp-IsAntisymmetric map.nat_cmp-IsAntisymmetric

-- the chunk that a step holds is loose
pub held_loose : (s : State) (x : ChunkRef) → SoundBut (Some x) s → (c : ℕ) → IsClass s.fixed c → IsChunkOf s.fixed s.owner c x → Loose s c x
held_loose s x sound c class chunk =
    let own : IsChunkOf s.fixed s.owner (owner_of s x.page) x = subst (λ k. IsChunkOf s.fixed s.owner k x) (sym chunk.owned) chunk in
    let none : stands s x ≡ 0 = omega (arith, rw (tells_chunk.self x) at (sound.placed.once x own)) in
    record {
      class = free_in s sound.well c class;
      chunk = chunk;
      nowhere = none;
      empty = elim (item_at s x) as (λ o. item_at s x ≡ o → o ≡ None) [
        | None ↦ λ e. refl
        | Some i ↦ λ e. absurd (omega (arith, none, sound.filed.queued x i e))
      ] refl;
    }

module _ (s : State) (c : ℕ) (x : ChunkRef) (i : PlainItem) where
  pub link_fill : WellFormed s → Fresh s c x i → Possible (Fills x (Some i)) s
  link_fill well h = keeps-fill s well x (Some i)
      (subst (λ k. IsChunkOf s.fixed s.owner k x) (sym h.loose.chunk.owned) h.loose.chunk, h.loose.nowhere)
      (λ k f. let w = well.index.indexed k x f in absurd (none_some w.0 (sym h.loose.empty ∙ w.1)))

  there : item_at (with_item x i s) x ≡ Some i
  there = get-put_at_same chunk_cmp_total chunk_cmp_exact s.content x (Some i)

  pub link_bind : WellFormed s → Fresh s c x i → Possible (Binds x) (with_item x i s)
  link_bind well h = keeps-bind (with_item x i s) (link_fill well h).after x (i, there, h.key)

  indexed : State
  indexed = record s { content = map.insert s.content x i; index = map.insert s.index i.key x }

  bind_is : moved (Binds x) (with_item x i s) ≡ indexed
  unfolding indexed
  bind_is = rw there refl

  pub link_put : WellFormed s → Fresh s c x i → (q : Queue) → Possible (Puts (ToQueue c q (Chunk x) None)) (moved (Binds x) (with_item x i s))
  unfolding indexed
  link_put well h q =
      let possible : Possible (Puts (ToQueue c q (Chunk x) None)) indexed =
      keeps-put_queue indexed (subst WellFormed bind_is (link_bind well h).after) c q (Chunk x) None
      (queue_in s well c h.class q, h.loose.nowhere, refl)
      (h.loose.chunk, ap is_some there) in
      subst (Possible (Puts (ToQueue c q (Chunk x) None))) (sym bind_is) possible

  pub link_cas : WellFormed s → Fresh s c x i → (q : Queue) (n : ℕ) → Possible (Sets (LastCas n)) (moved (Puts (ToQueue c q (Chunk x) None)) (moved (Binds x) (with_item x i s)))
  link_cas well h q n = keeps-sets (moved (Puts (ToQueue c q (Chunk x) None)) (moved (Binds x) (with_item x i s))) (link_put well h q).after (LastCas n)

  pub linked_is : moved (Sets (LastCas i.cas)) (moved (Puts (ToQueue c (queue_for s.globals i.moment) (Chunk x) None)) (moved (Binds x) (with_item x i s))) ≡ linked c x i s
  linked_is = rw there refl

  pub rest-linked : SoundBut (Some x) s → Fresh s c x i → class_of s.fixed (footprint_of i) ≡ Some c → Rest None (linked c x i s)
  rest-linked sound h fits =
      let n = queue_place c (queue_for s.globals i.moment) in
      let sum : (y : ChunkRef) → sum_by (count same_entry (Chunk y)) (linked c x i s).queues ≡ sum_by (count same_entry (Chunk y)) s.queues + cond (same_chunk y x) 1 0 = λ y.
      omega (arith, sum_by-set (count same_entry (Chunk y)) s.queues n (Chunk x ∷ slice_index_or s.queues n []) [] (queue_in s sound.well c h.class (queue_for s.globals i.moment))) in
      let got : (y : ChunkRef) → map.get (map.insert s.content x i) y ≡ cond (eq_by_cmp chunk_cmp y x) (Some i) (map.get s.content y) = λ y. get-put_at chunk_cmp_total chunk_cmp_exact s.content x (Some i) y in
      let keyed : (k : List ℕ) → map.get (map.insert s.index i.key x) k ≡ cond (eq_by_cmp (slice_cmp nat_cmp) k i.key) (Some x) (map.get s.index k) = λ k. map.get-insert nat_list_cmp_total s.index i.key x k in
      let is_new : (y : ChunkRef) (j : PlainItem) → map.get (map.insert s.content x i) y ≡ Some j → eq_by_cmp chunk_cmp y x ≡ true → (y ≡ x) × (i ≡ j) = λ y j g f.
      (tied chunk_cmp_total chunk_cmp_exact y x f, some_inj i j (sym (got y ∙ ap (λ b. cond b (Some i) (map.get s.content y)) f) ∙ g)) in
      let is_old : (y : ChunkRef) (j : PlainItem) → map.get (map.insert s.content x i) y ≡ Some j → eq_by_cmp chunk_cmp y x ≡ false → map.get s.content y ≡ Some j = λ y j g f.
      sym (got y ∙ ap (λ b. cond b (Some i) (map.get s.content y)) f) ∙ g in
      let old_apart : (y : ChunkRef) (j : PlainItem) → map.get s.content y ≡ Some j → same_chunk y x ≡ false = λ y j g. elim (cases_Bool (same_chunk y x)) [
        | inl e ↦ absurd (none_some j (sym h.loose.empty ∙ ap (item_at s) (sym (tells_chunk.exact y x e)) ∙ g))
        | inr e ↦ e
      ] in
      record {
        placed = record { once = λ y k. omega (arith, sound.placed.once y k, sum y) };
        filed = record {
          queued = λ y j g. elim (cases_Bool (eq_by_cmp chunk_cmp y x)) [
            | inl f ↦
                let w = is_new y j g f in
                let one : sum_by (count same_entry (Chunk x)) (linked c x i s).queues ≡ sum_by (count same_entry (Chunk x)) s.queues + 1 = rw (tells_chunk.self x) at (sum x) in
                rw w.0 (omega (arith, one, h.loose.nowhere))
            | inr f ↦
                let o = is_old y j g f in
                let one : sum_by (count same_entry (Chunk y)) (linked c x i s).queues ≡ sum_by (count same_entry (Chunk y)) s.queues + 0 = rw (old_apart y j o) at (sum y) in
                omega (arith, one, sound.filed.queued y j o)
          ];
          keyed = λ y j g. elim (cases_Bool (eq_by_cmp chunk_cmp y x)) [
            | inl f ↦
                let w = is_new y j g f in
                rw (w.0, ← w.1) (get-put_at_same nat_list_cmp_total keys_exact s.index i.key (Some x))
            | inr f ↦
                let there = sound.filed.keyed y j (is_old y j g f) in
                keyed j.key ∙ elim (cases_Bool (eq_by_cmp (slice_cmp nat_cmp) j.key i.key)) as (λ _. cond (eq_by_cmp (slice_cmp nat_cmp) j.key i.key) (Some x) (map.get s.index j.key) ≡ Some y) [
                  | inl e ↦ absurd (none_some y (sym h.key ∙ ap (map.get s.index) (sym (tied nat_list_cmp_total keys_exact j.key i.key e)) ∙ there))
                  | inr e ↦ rw e there
                ]
          ];
          class = λ y j g. elim (cases_Bool (eq_by_cmp chunk_cmp y x)) [
            | inl f ↦ let w = is_new y j g f in rw (w.0, ← w.1) (fits ∙ ap Some (sym h.loose.chunk.owned))
            | inr f ↦ sound.filed.class y j (is_old y j g f)
          ];
        };
        kept = sound.kept;
      }
