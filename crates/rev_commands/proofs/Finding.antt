-- What a lookup found, told from the state after it and the chunk.
use Rattle.std.specs.Prelude.{ℕ, ◌≡◌, List, Option, None, Some, refl}
use Rattle.std.proofs.Common.{sym, ◌∙◌, ap, subst, inl, inr}
use Rattle.std.proofs.lemmas.Bool.{cases_Bool}
use Rattle.std.specs.FinMap as map
use Rattle.std.specs.Cmp.Lexicographic.{nat_list_cmp_total}
use Rattle.rev_items.specs.Plain.{PlainItem}
use Rattle.rev_model.specs.State.{State, WellFormed, item_at, find}
use Rattle.rev_model.proofs.Undo.{get-put_at_same}
use Rattle.rev_model.specs.Words.{is_dead}
use Rattle.rev_model.specs.Client.{lookup, looked_at, looked_item}
use Rattle.rev_model.specs.declared.ChunkRef.{ChunkRef}
use Rattle.rev_commands.proofs.Looking.{chunk_of}
use Rattle.rev_commands.specs.Finding.{held_item, held}

looked_held : (s : State) (x : ChunkRef) (o : Option PlainItem) → item_at s x ≡ o → looked_item s x o ≡ ((looked_item s x o).0, held (looked_item s x o).0 (chunk_of (looked_item s x o).1))
looked_held s x None e = refl
looked_held s x (Some i) e = elim (cases_Bool (is_dead s.globals i)) [
  | inl f ↦ rw f refl
  | inr f ↦ rw f (ap (λ o. (s, held_item x o)) (sym e))
]

found_held : (s : State) (o : Option ChunkRef) → looked_at s o ≡ ((looked_at s o).0, held (looked_at s o).0 (chunk_of (looked_at s o).1))
found_held s None = refl
found_held s (Some x) = looked_held s x (item_at s x) refl

-- a lookup by what its call leaves and answers
pub lookup_is : (s t : State) (k : List ℕ) (o : Option ChunkRef) → t ≡ (lookup s k).0 → o ≡ chunk_of (lookup s k).1 → lookup s k ≡ (t, held t o)
lookup_is s t k o e f = found_held s (find s k) ∙ ap (λ u. (u, held u (chunk_of (lookup s k).1))) (sym e) ∙ ap (λ p. (t, held t p)) (sym f)

-- where the key then leads
key_item : (s : State) (k : List ℕ) (x : ChunkRef) (i : PlainItem) → find s k ≡ Some x → i.key ≡ k → find (looked_item s x (Some i)).0 k ≡ chunk_of (looked_item s x (Some i)).1
key_item s k x i f e = elim (cases_Bool (is_dead s.globals i)) [
  | inl h ↦ rw h (ap (map.get (map.remove s.index i.key)) (sym e) ∙ get-put_at_same nat_list_cmp_total (map.slice_cmp-IsAntisymmetric map.nat_cmp-IsAntisymmetric) s.index i.key None)
  | inr h ↦ rw h f
]

key_at : (s : State) → WellFormed s → (k : List ℕ) (o : Option ChunkRef) → find s k ≡ o → find (looked_at s o).0 k ≡ chunk_of (looked_at s o).1
key_at s well k None f = f
key_at s well k (Some x) f =
    let w = well.index.indexed k x f in
    subst (λ o. find (looked_item s x o).0 k ≡ chunk_of (looked_item s x o).1) (sym w.1) (key_item s k x w.0 f w.2)

pub found_key : (s : State) → WellFormed s → (t : State) (k : List ℕ) (o : Option ChunkRef) → t ≡ (lookup s k).0 → o ≡ chunk_of (lookup s k).1 → find t k ≡ o
found_key s well t k o e f = ap (λ u. find u k) e ∙ key_at s well k (find s k) refl ∙ sym f
