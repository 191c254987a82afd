-- A live item of a key is the one that a lookup finds.
use Rattle.std.specs.Prelude.{ℕ, ◌≡◌, cond, List, [], Option, None, Some, refl}
use Rattle.std.proofs.Common.{sym, ◌∙◌, ap, inl, inr}
use Rattle.std.proofs.lemmas.Bool.{cases_Bool}
use Rattle.rev_items.specs.Plain.{PlainItem}
use Rattle.rev_model.specs.State.{State, WellFormed, item_at, find}
use Rattle.rev_model.specs.declared.ChunkRef.{ChunkRef}
use Rattle.rev_model.specs.Words.{is_dead}
use Rattle.rev_model.specs.Client.{lookup, looked_at, looked_item}
use Rattle.rev_model.specs.Causes.{look_removals}
use Rattle.rev_commands.specs.Living.{item_of, live_of}

-- the key's item is this one, and alive: a lookup changes nothing and finds it
pub record Lives (s : State) (k : List ℕ) (i : PlainItem) : Type 0 where
  pub chunk : ChunkRef
  pub looked : lookup s k ≡ (s, Some (chunk, i))
  pub key : i.key ≡ k
  pub quiet : look_removals s k ≡ []

some_inj : {X : Type 0} (x y : X) → Some x ≡ Some y → x ≡ y
some_inj x y e = cc

lives_at : (s : State) (k : List ℕ) (x : ChunkRef) (j : PlainItem) → find s k ≡ Some x → item_at s x ≡ Some j → j.key ≡ k → (i : PlainItem) → item_of (looked_item s x (Some j)).1 ≡ Some i → Lives s k i
lives_at s k x j q p e i h = elim (cases_Bool (is_dead s.globals j)) [
  | inl f ↦ let g : None ≡ Some i = rw f at h in absurd (cc)
  | inr f ↦ let g : Some j ≡ Some i = rw f at h in
      let is : j ≡ i = some_inj j i g in
      record { chunk = x; looked = rw (q, p, f) (ap (λ (u : PlainItem). (s, Some (x, u))) is); key = ap (λ (u : PlainItem). u.key) (sym is) ∙ e; quiet = rw (q, p, f) refl }
]

lives_by : (s : State) → WellFormed s → (k : List ℕ) (o : Option ChunkRef) → find s k ≡ o → (i : PlainItem) → item_of (looked_at s o).1 ≡ Some i → Lives s k i
lives_by s well k None q i h = absurd (cc)
lives_by s well k (Some x) q i h =
    let w = well.index.indexed k x q in
    lives_at s k x w.0 q w.1 w.2 i (ap (λ o. item_of (looked_item s x o).1) (sym w.1) ∙ h)

pub lives : (s : State) → WellFormed s → (k : List ℕ) (i : PlainItem) → live_of s k ≡ Some i → Lives s k i
lives s well k i h = lives_by s well k (find s k) refl i h

none_of : (o : Option (ChunkRef × PlainItem)) → item_of o ≡ None → o ≡ None
none_of None e = refl
none_of (Some f) e = absurd (cc)

pub missing : (s : State) (k : List ℕ) → live_of s k ≡ None → (lookup s k).1 ≡ None
missing s k e = none_of (lookup s k).1 e

-- where the key leads to no chunk, or to this item
pub live_none : (s : State) (k : List ℕ) → find s k ≡ None → live_of s k ≡ None
live_none s k e = rw e refl

pub live_is : (s : State) (k : List ℕ) (x : ChunkRef) (i : PlainItem) → find s k ≡ Some x → item_at s x ≡ Some i → live_of s k ≡ cond (is_dead s.globals i) None (Some i)
live_is s k x i e f = rw (e, f) (elim (cases_Bool (is_dead s.globals i)) [ inl g ↦ rw g refl | inr g ↦ rw g refl ])
