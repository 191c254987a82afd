-- What a lookup found leaves, is hit, or stays.
use Rattle.std.specs.Prelude.{ℕ, ℤ, ◌≡◌, List, [], ◌++◌, Option, None, Some, length}
use Rattle.std.proofs.Common.{sym, ◌∙◌, ap}
use Rattle.rev_items.specs.Plain.{PlainItem}
use Rattle.rev_items.specs.Rules.{moment}
use Rattle.rev_model.specs.State.{State, item_at, owner_of}
use Rattle.rev_model.specs.Words.{dropped, queue_with}
use Rattle.rev_model.specs.Client.{lookup, removed, hit, get, get_found, touch, touch_found, until, delete, delete_found}
use Rattle.rev_model.specs.Causes.{look_removals, found_removals, clear_removals}
use Rattle.rev_model.specs.Track.{removal}
use Rattle.rev_model.specs.declared.Cause.{Cause}
use Rattle.rev_model.specs.declared.ChunkRef.{ChunkRef}
use Rattle.rev_model.specs.declared.Outcome.{Outcome}
use Rattle.rev_model.specs.declared.Outcome.TheVariants.{Deleted, Hit, Touched}
use Rattle.rev_commands.proofs.Looking.{Live, found_is}

abbrev pub dropped_at : State → ChunkRef → PlainItem → State
dropped_at s x i = dropped (owner_of s x.page) (queue_with s (owner_of s x.page) x) x i s

-- ---- what is done to the chunk that a lookup found

module _ (s t u : State) (k : List ℕ) (x : ChunkRef) (l : Live s k x) (e : t ≡ (lookup s k).0) where
  same : t ≡ s
  same = e ∙ ap (λ (r : State × Option (ChunkRef × PlainItem)). r.0) (found_is s k x l)

  pub there : item_at t x ≡ Some l.item
  there = ap (λ v. item_at v x) same ∙ l.there

  gone : ((i : PlainItem) → item_at t x ≡ Some i → u ≡ dropped_at t x i) → u ≡ dropped_at s x l.item
  gone h = h l.item there ∙ ap (λ v. dropped_at v x l.item) same

  -- it was removed
  pub cleared_by : ((i : PlainItem) → item_at t x ≡ Some i → u ≡ dropped_at t x i) → u ≡ removed (lookup s k).1 (lookup s k).0
  cleared_by h = gone h ∙ sym (ap (λ (r : State × Option (ChunkRef × PlainItem)). removed r.1 r.0) (found_is s k x l))

  pub deleted_by : ((i : PlainItem) → item_at t x ≡ Some i → u ≡ dropped_at t x i) → (u, Deleted) ≡ delete s k
  deleted_by h = ap (λ v. (v, Deleted)) (gone h) ∙ sym (ap delete_found (found_is s k x l))

  -- it was hit
  pub got_by : (r : Outcome) → ((i : PlainItem) → item_at t x ≡ Some i → u ≡ hit t x i) → ((i : PlainItem) → item_at t x ≡ Some i → r ≡ Hit (length i.value) i.cas) → (u, r) ≡ get s k
  got_by r h a =
      ap (λ v. (v, r)) (h l.item there ∙ ap (λ v. hit v x l.item) same) ∙ ap (λ o. (hit s x l.item, o)) (a l.item there) ∙ sym (ap get_found (found_is s k x l))

  -- and its moment set
  pub touched_by : (e : ℤ) → ((i : PlainItem) → item_at t x ≡ Some i → u ≡ until (moment t.globals.clock e) x (item_at (hit t x i) x) (hit t x i)) → (u, Touched) ≡ touch s k e
  touched_by e h = ap (λ v. (v, Touched)) (h l.item there) ∙ ap (λ (v : State). (until (moment v.globals.clock e) x (item_at (hit v x l.item) x) (hit v x l.item), Touched)) same ∙ sym (ap (touch_found e) (found_is s k x l))

-- ---- what is told of it

pub found_clear : (cause : Option Cause) (s t : State) (k : List ℕ) (x : ChunkRef) → (l : Live s k x) → t ≡ (lookup s k).0 → look_removals s k ++ removal (item_at t x) cause ≡ clear_removals cause s k
found_clear cause s t k x l e =
    let same : t ≡ s = e ∙ ap (λ (r : State × Option (ChunkRef × PlainItem)). r.0) (found_is s k x l) in
    ap (λ o. look_removals s k ++ removal o cause) (ap (λ v. item_at v x) same ∙ l.there) ∙ ap (λ (r : State × Option (ChunkRef × PlainItem)). look_removals s k ++ found_removals cause r.1) (sym (found_is s k x l))

pub missed_clear : (cause : Option Cause) (s : State) (k : List ℕ) → (lookup s k).1 ≡ None → look_removals s k ++ [] ≡ clear_removals cause s k
missed_clear cause s k e = ap (λ o. look_removals s k ++ found_removals cause o) (sym e)
