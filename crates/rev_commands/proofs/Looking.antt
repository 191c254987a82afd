-- A lookup takes the moves that it is said to need, and leaves a sound store.
use Rattle.std.specs.Prelude.{ℕ, ◌≡◌, ◌≤◌, false, List, Option, None, Some, refl}
use Rattle.std.specs.Option.{option_map}
use Rattle.std.proofs.Common.{sym, ◌∙◌, ap, inl, inr, arith}
use Rattle.std.proofs.lemmas.Bool.{cases_Bool}
use Rattle.rev_items.specs.Plain.{PlainItem}
use Rattle.rev_model.specs.State.{State, item_at, find}
use Rattle.rev_model.specs.declared.ChunkRef.{ChunkRef}
use Rattle.rev_model.specs.Words.{is_dead}
use Rattle.rev_model.specs.Client.{lookup, looked_at, looked_item, removed}
use Rattle.rev_commands.specs.Looking.{dead_need, looked_need, look_need, found_need, removal_need, evicted_need}

dead_most : (s : State) (o : Option PlainItem) → dead_need s.globals o ≤ 4
dead_most s None = omega arith
dead_most s (Some i) = elim (cases_Bool (is_dead s.globals i)) [ inl e ↦ rw e (omega arith) | inr e ↦ rw e (omega arith) ]

looked_most : (s : State) (o : Option ChunkRef) → looked_need s o ≤ found_need o
looked_most s None = omega arith
looked_most s (Some x) = dead_most s (item_at s x)

pub look_most : (s : State) (k : List ℕ) → look_need s k ≤ removal_need s k
look_most s k = looked_most s (find s k)

pub removal_most : (o : Option ChunkRef) → found_need o ≤ 4
removal_most None = omega arith
removal_most (Some x) = omega arith

pub eviction_most : (o : Option ChunkRef) → evicted_need o ≤ 5
eviction_most None = omega arith
eviction_most (Some x) = omega arith

abbrev pub chunk_of : Option (ChunkRef × PlainItem) → Option ChunkRef
chunk_of o = option_map (λ f. f.0) o

-- the key leads to the chunk, whose item is alive
pub record Live (s : State) (k : List ℕ) (x : ChunkRef) : Type 0 where
  pub item : PlainItem
  pub leads : find s k ≡ Some x
  pub there : item_at s x ≡ Some item
  pub alive : is_dead s.globals item ≡ false

some_inj : {X : Type 0} (x y : X) → Some x ≡ Some y → x ≡ y
some_inj x y e = cc

item_found : (s : State) (k : List ℕ) (y : ChunkRef) (o : Option PlainItem) → find s k ≡ Some y → item_at s y ≡ o → (x : ChunkRef) → chunk_of (looked_item s y o).1 ≡ Some x → Live s k x
item_found s k y None q p x e = absurd (cc)
item_found s k y (Some i) q p x e = elim (cases_Bool (is_dead s.globals i)) [
  | inl f ↦ let g : None ≡ Some x = rw f at e in absurd (cc)
  | inr f ↦ let g : Some y ≡ Some x = rw f at e in
      let is : y ≡ x = some_inj y x g in
      record { item = i; leads = q ∙ ap Some is; there = ap (item_at s) (sym is) ∙ p; alive = f }
]

chunk_found : (s : State) (k : List ℕ) (o : Option ChunkRef) → find s k ≡ o → (x : ChunkRef) → chunk_of (looked_at s o).1 ≡ Some x → Live s k x
chunk_found s k None q x e = absurd (cc)
chunk_found s k (Some y) q x e = item_found s k y (item_at s y) q refl x e

-- what a lookup that found a chunk tells
pub found : (s : State) (k : List ℕ) (x : ChunkRef) → chunk_of (lookup s k).1 ≡ Some x → Live s k x
found s k x e = chunk_found s k (find s k) refl x e

-- and what it leaves: nothing changed
pub found_is : (s : State) (k : List ℕ) (x : ChunkRef) → (l : Live s k x) → lookup s k ≡ (s, Some (x, l.item))
found_is s k x l = rw (l.leads, l.there, l.alive) refl

pub found_look : (s : State) (k : List ℕ) (x : ChunkRef) → Live s k x → look_need s k ≡ 0
found_look s k x l = rw (l.leads, l.there, l.alive) refl

pub found_removal : (s : State) (k : List ℕ) (x : ChunkRef) → Live s k x → removal_need s k ≡ 4
found_removal s k x l = rw l.leads refl

pub found_none : (o : Option (ChunkRef × PlainItem)) (s : State) → chunk_of o ≡ None → removed o s ≡ s
found_none None s e = refl
found_none (Some f) s e = absurd (cc)

none_found : (o : Option (ChunkRef × PlainItem)) → None ≡ chunk_of o → o ≡ None
none_found None e = refl
none_found (Some f) e = absurd (cc)

-- a lookup that found none
pub missed : (s : State) (k : List ℕ) → None ≡ chunk_of (lookup s k).1 → (lookup s k).1 ≡ None
missed s k e = none_found (lookup s k).1 e

-- where a key leads nowhere else than before, a removal takes no more moves
pub removal_less : (s t : State) (k : List ℕ) → ((x : ChunkRef) → find t k ≡ Some x → find s k ≡ Some x) → removal_need t k ≤ removal_need s k
removal_less s t k h = go (find t k) refl
  where
    go : (o : Option ChunkRef) → find t k ≡ o → found_need o ≤ removal_need s k
    go None e = omega arith
    go (Some x) e = rw (h x e) (omega arith)
