-- A look-up at the chunk that the key led to before room was made, by which its item may have left.
use Rattle.std.specs.Prelude.{ℕ, ◌≡◌, List, Option, None, Some, refl}
use Rattle.std.proofs.Common.{sym, ◌∙◌, ap}
use Rattle.rev_items.specs.Plain.{PlainItem}
use Rattle.rev_model.specs.State.{State, WellFormed, item_at, find}
use Rattle.rev_model.specs.Sound.{SoundBut}
use Rattle.rev_model.specs.Client.{lookup, looked_at}
use Rattle.rev_model.specs.Causes.{look_removals, looked_removals}
use Rattle.rev_model.specs.declared.ChunkRef.{ChunkRef}
use Rattle.rev_commands.specs.Finding.{held_item, standing}
use Rattle.rev_commands.specs.Looking.{look_need, looked_need}
use Rattle.rev_commands.proofs.Looking.{chunk_of}

some_inj : {X : Type 0} (x y : X) → Some x ≡ Some y → x ≡ y
some_inj x y e = cc

-- ---- what looks at a chunk takes one without an item for none

same_item : {X : Type 0} (f : Option ChunkRef → X) (s : State) (x : ChunkRef) (o : Option PlainItem) → item_at s x ≡ o → (item_at s x ≡ None → f (Some x) ≡ f None) → f (chunk_of (held_item x o)) ≡ f (Some x)
same_item f s x None e h = sym (h e)
same_item f s x (Some i) e h = refl

same_standing : {X : Type 0} (f : Option ChunkRef → X) (s : State) → ((x : ChunkRef) → item_at s x ≡ None → f (Some x) ≡ f None) → (o : Option ChunkRef) → f (standing s o) ≡ f o
same_standing f s h None = refl
same_standing f s h (Some x) = same_item f s x (item_at s x) refl (h x)

module _ (s : State) (k : List ℕ) (o : Option ChunkRef) (led : find s k ≡ standing s o) where
  pub at_lookup : looked_at s o ≡ lookup s k
  at_lookup = sym (ap (looked_at s) led ∙ same_standing (looked_at s) s (λ x e. rw e refl) o)

  pub at_need : looked_need s o ≡ look_need s k
  at_need = sym (ap (looked_need s) led ∙ same_standing (looked_need s) s (λ x e. rw e refl) o)

  pub at_removals : looked_removals s o ≡ look_removals s k
  at_removals = sym (ap (looked_removals s) led ∙ same_standing (looked_removals s) s (λ x e. rw e refl) o)

-- ---- the chunk that a key leads to holds its item

stands_by : (s : State) → WellFormed s → (k : List ℕ) (o : Option ChunkRef) → find s k ≡ o → o ≡ standing s o
stands_by s well k None e = refl
stands_by s well k (Some x) e = ap (λ i. chunk_of (held_item x i)) (sym (well.index.indexed k x e).1)

pub found_stands : (s : State) → WellFormed s → (k : List ℕ) (o : Option ChunkRef) → o ≡ find s k → find s k ≡ standing s o
found_stands s well k o e = sym e ∙ stands_by s well k o (sym e)

-- ---- and where each key that is left leads where it led, the key leads to that chunk if it still holds an item

module _ (h : Option ChunkRef) (s t : State) (well : WellFormed s) (sound : SoundBut h t) (keys : (l : List ℕ) (x : ChunkRef) → find t l ≡ Some x → find s l ≡ Some x) (k : List ℕ) where
  nowhere : (p : Option ChunkRef) → find t k ≡ p → find s k ≡ None → find t k ≡ None
  nowhere None e f = e
  nowhere (Some y) e f = let g : None ≡ Some y = sym f ∙ keys k y e in absurd (cc)

  empty : (x : ChunkRef) (p : Option ChunkRef) → find t k ≡ p → find s k ≡ Some x → item_at t x ≡ None → find t k ≡ None
  empty x None e f none = e
  empty x (Some y) e f none =
      let w = sound.well.index.indexed k y e in
      let is : y ≡ x = some_inj y x (sym (keys k y e) ∙ f) in
      let there : None ≡ Some w.0 = sym none ∙ ap (item_at t) (sym is) ∙ w.1 in
      absurd (cc)

  filled : (x : ChunkRef) (j : PlainItem) → find s k ≡ Some x → item_at t x ≡ Some j → find t k ≡ Some x
  filled x j f there =
      let leads = sound.filed.keyed x j there in
      let own = well.index.indexed j.key x (keys j.key x leads) in
      let asked = well.index.indexed k x f in
      let same : own.0 ≡ asked.0 = some_inj own.0 asked.0 (sym own.1 ∙ asked.1) in
      let key : j.key ≡ k = sym own.2 ∙ ap (λ (i : PlainItem). i.key) same ∙ asked.2 in
      ap (find t) (sym key) ∙ leads

  by_item : (x : ChunkRef) → find s k ≡ Some x → (i : Option PlainItem) → item_at t x ≡ i → find t k ≡ chunk_of (held_item x i)
  by_item x f None e = empty x (find t k) refl f e
  by_item x f (Some j) e = filled x j f e

  pub still_led : (o : Option ChunkRef) → o ≡ find s k → find t k ≡ standing t o
  still_led None e = nowhere (find t k) refl (sym e)
  still_led (Some x) e = by_item x (sym e) (item_at t x) refl
