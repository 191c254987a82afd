-- An item leaves its queue, the index and its chunk, and the chunk goes to the free list: each move is possible.
use Rattle.std.specs.Prelude.{ℕ, ◌≡◌, cond, List, None, Some, is_some, refl}
use Rattle.std.proofs.Common.{sym, ◌∙◌, ap, subst, inl, inr}
use Rattle.std.proofs.lemmas.Bool.{cases_Bool}
use Rattle.std.specs.FinMap as map
use Rattle.std.specs.Ordering.{eq_by_cmp}
use Rattle.std.specs.Cmp.Lexicographic.{nat_list_cmp_total}
use Rattle.rev_items.specs.Plain.{PlainItem}
use Rattle.rev_model.specs.Chunk.{chunk_cmp}
use Rattle.rev_model.proofs.Chunks.{chunk_cmp_exact, chunk_cmp_total}
use Rattle.rev_model.specs.State.{State, WellFormed, item_at, find, stands}
use Rattle.rev_model.specs.Move.{Takes, Puts, Fills, Touches, Unbinds, moved, Possible, touched}
use Rattle.rev_model.proofs.Undo.{undo, get-put_at_same, get-put_at, tied}
use Rattle.rev_model.proofs.Keeps.{keeps-take_queue, keeps-unbind, keeps-fill, keeps-put_free}
use Rattle.rev_model.specs.declared.ChunkRef.{ChunkRef}
use Rattle.rev_model.specs.declared.Entry.TheVariants.{Chunk}
use Rattle.rev_model.specs.declared.Queue.{Queue}
use Rattle.rev_model.specs.declared.Touched.{Touched}
use Rattle.rev_model.specs.declared.Listed.TheVariants.{InQueue}
use Rattle.rev_model.specs.declared.Placed.TheVariants.{ToFree}
use Rattle.rev_model.specs.Words.{unlinked, left}
use Rattle.rev_model.specs.Sound.{Stands, Loose}

some_inj : {X : Type 0} (x y : X) → Some x ≡ Some y → x ≡ y
some_inj x y e = cc

none_some : {X : Type 0} (y : X) → None ≡ Some y → ⊥
none_some y e = cc

-- after the queue
abbrev pub gone_queue : ℕ → Queue → ChunkRef → State → State
gone_queue c q x s = moved (Takes (InQueue c q (Chunk x))) s

-- after the queue and the index
abbrev pub gone_index : ℕ → Queue → ChunkRef → PlainItem → State → State
gone_index c q x i s = record (left c q x s) { index = map.remove s.index i.key }

pub drop_take : (s : State) → WellFormed s → (c : ℕ) (q : Queue) (x : ChunkRef) (i : PlainItem) → Stands s c q x i → Possible (Takes (InQueue c q (Chunk x))) s
drop_take s well c q x i h = keeps-take_queue s well c q (Chunk x) (h.place, h.there)

pub drop_unbind : (s : State) → WellFormed s → (c : ℕ) (q : Queue) (x : ChunkRef) (i : PlainItem) → Stands s c q x i → Possible (Unbinds x) (left c q x s)
drop_unbind s well c q x i h = keeps-unbind (left c q x s) (drop_take s well c q x i h).after x (i, h.item, h.key)

left_stands : (s : State) → WellFormed s → (c : ℕ) (q : Queue) (x : ChunkRef) (i : PlainItem) → Stands s c q x i → stands (left c q x s) x ≡ 0
left_stands s well c q x i h = (undo (Takes (InQueue c q (Chunk x))) s well (h.place, h.there)).ready.1

unbind_is : (s : State) (c : ℕ) (q : Queue) (x : ChunkRef) (i : PlainItem) → Stands s c q x i → moved (Unbinds x) (left c q x s) ≡ gone_index c q x i s
unbind_is s c q x i h = rw h.item refl

index_well : (s : State) → WellFormed s → (c : ℕ) (q : Queue) (x : ChunkRef) (i : PlainItem) → Stands s c q x i → WellFormed (gone_index c q x i s)
index_well s well c q x i h = subst WellFormed (unbind_is s c q x i h) (drop_unbind s well c q x i h).after

-- no key leads to the chunk any more
no_key : (s : State) → WellFormed s → (c : ℕ) (q : Queue) (x : ChunkRef) (i : PlainItem) → Stands s c q x i → (k : List ℕ) → find (gone_index c q x i s) k ≡ Some x → ⊥
no_key s well c q x i h k f =
    let w = (index_well s well c q x i h).index.indexed k x f in
    let same : i ≡ w.0 = some_inj i w.0 (sym h.item ∙ w.1) in
    let e : i.key ≡ k = ap (λ (j : PlainItem). j.key) same ∙ w.2 in
    let lost : find (gone_index c q x i s) i.key ≡ None = get-put_at_same nat_list_cmp_total (map.slice_cmp-IsAntisymmetric map.nat_cmp-IsAntisymmetric) s.index i.key None in
    none_some x (sym lost ∙ ap (find (gone_index c q x i s)) e ∙ f)

pub drop_fill : (s : State) → WellFormed s → (c : ℕ) (q : Queue) (x : ChunkRef) (i : PlainItem) → Stands s c q x i → Possible (Fills x None) (moved (Unbinds x) (left c q x s))
drop_fill s well c q x i h =
    let possible : Possible (Fills x None) (gone_index c q x i s) =
    keeps-fill (gone_index c q x i s) (index_well s well c q x i h) x None
    ((well.filled.items x (ap is_some h.item)).0, left_stands s well c q x i h)
    (λ k f. absurd (no_key s well c q x i h k f)) in
    subst (Possible (Fills x None)) (sym (unbind_is s c q x i h)) possible

pub unlinked_is : (s : State) (c : ℕ) (q : Queue) (x : ChunkRef) (i : PlainItem) → Stands s c q x i → moved (Fills x None) (moved (Unbinds x) (moved (Takes (InQueue c q (Chunk x))) s)) ≡ unlinked c q x i s
unlinked_is s c q x i h = rw h.item refl

pub loose : (s : State) → WellFormed s → (c : ℕ) (q : Queue) (x : ChunkRef) (i : PlainItem) → Stands s c q x i → Loose (unlinked c q x i s) c x
loose s well c q x i h = record {
  class = h.class;
  chunk = well.lists.queued_of_class c q x h.there;
  nowhere = left_stands s well c q x i h;
  empty = get-put_at_same chunk_cmp_total chunk_cmp_exact s.content x None;
}

pub free_put : (s : State) → WellFormed s → (c : ℕ) (x : ChunkRef) → Loose s c x → Possible (Puts (ToFree c x None)) s
free_put s well c x h = keeps-put_free s well c x None (h.class, h.nowhere, refl) h.chunk h.empty

-- bits, time and moment may be exchanged
pub keeps-touch : (s : State) → WellFormed s → (x : ChunkRef) (t : Touched) (i : PlainItem) → item_at s x ≡ Some i → Possible (Touches x t) s
keeps-touch s well x t i e =
    let j = touched t i in
    let got : (y : ChunkRef) → map.get (map.insert s.content x (touched t i)) y ≡ cond (eq_by_cmp chunk_cmp y x) (Some (touched t i)) (map.get s.content y) = λ y. get-put_at chunk_cmp_total chunk_cmp_exact s.content x (Some (touched t i)) y in
    let some : (y : ChunkRef) → is_some (map.get s.content y) ≡ is_some (map.get (map.insert s.content x (touched t i)) y) = λ y. elim (cases_Bool (eq_by_cmp chunk_cmp y x)) [
      | inl f ↦ ap is_some (ap (item_at s) (tied chunk_cmp_total chunk_cmp_exact y x f) ∙ e) ∙ sym (ap is_some (got y ∙ ap (λ b. cond b (Some (touched t i)) (map.get s.content y)) f))
      | inr f ↦ sym (ap is_some (got y ∙ ap (λ b. cond b (Some (touched t i)) (map.get s.content y)) f))
    ] in
    let w : WellFormed (record s { content = map.insert s.content x (touched t i) }) = record {
      lists = well.lists;
      filled = record {
        queued_items = λ p y h. sym (some y) ∙ well.filled.queued_items p y h;
        items = λ y h. well.filled.items y (some y ∙ h);
      };
      index = record {
        indexed = λ k y h.
            let v = well.index.indexed k y h in
            elim (cases_Bool (eq_by_cmp chunk_cmp y x)) [
              | inl f ↦
                  let is : i ≡ v.0 = some_inj i v.0 (sym e ∙ sym (ap (item_at s) (tied chunk_cmp_total chunk_cmp_exact y x f)) ∙ v.1) in
                  (touched t i, got y ∙ ap (λ b. cond b (Some (touched t i)) (map.get s.content y)) f, ap (λ (z : PlainItem). z.key) is ∙ v.2)
              | inr f ↦ (v.0, got y ∙ ap (λ b. cond b (Some (touched t i)) (map.get s.content y)) f ∙ v.1, v.2)
            ];
      };
      owned = well.owned;
      bump = well.bump;
      counters = well.counters;
    } in
    record { ready = ap is_some e; after = rw e w }
