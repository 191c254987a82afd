-- Words of the laws of tracking: a store between steps, the note of the first removal of a key, and all its removals.
use Rattle.std.specs.Prelude.{ℕ, ◌≡◌, Bool, true, false, cond, List, [], ◌∷◌, Option, None, Some, length}
use Rattle.std.proofs.Common.{ap, arith}
use Rattle.std.specs.List.{filter}
use Rattle.rev_items.specs.Plain.{PlainItem}
use Rattle.rev_model.specs.State.{State, WellFormed, item_at, find}
use Rattle.rev_model.specs.declared.ChunkRef.{ChunkRef}
use Rattle.rev_model.specs.declared.Queue.{Queue}
use Rattle.rev_model.specs.declared.Cause.{Cause}
use Rattle.rev_model.specs.Track.{sits_in, same_key, Removal}

-- a store between steps: the index has exactly each item's key, and a chunk has an item exactly where it stands in a
-- queue
pub record SoundKeys (s : State) : Type 0 where
  pub well : WellFormed s
  pub indexed : (x : ChunkRef) (i : PlainItem) → item_at s x ≡ Some i → find s i.key ≡ Some x
  pub queued : (x : ChunkRef) (i : PlainItem) → item_at s x ≡ Some i → (c : ℕ) × (q : Queue) × (sits_in s x c q ≡ true)

-- the note of the first removal of the key
abbrev pub first_removal : List ℕ → List Removal → Option (Option Cause)
first_removal k [] = None
first_removal k (r ∷ rs) = cond (same_key k r.key) (Some r.note) (first_removal k rs)

-- the removals of the key
abbrev pub key_removals : List ℕ → List Removal → List Removal
key_removals k rs = filter (λ (r : Removal). same_key k r.key) rs

first_or : (b : Bool) (k : List ℕ) (r q : Removal) (rs qs : List Removal) → (key_removals k rs ≡ q ∷ qs → first_removal k rs ≡ Some q.note) → cond b (r ∷ key_removals k rs) (key_removals k rs) ≡ q ∷ qs → cond b (Some r.note) (first_removal k rs) ≡ Some q.note
first_or true k r q rs qs more e = let same : r ≡ q = cc in ap (λ (p : Removal). Some p.note) same
first_or false k r q rs qs more e = more e

-- the first of them
pub key_removals-first : (k : List ℕ) (rs : List Removal) (q : Removal) (qs : List Removal) → key_removals k rs ≡ q ∷ qs → first_removal k rs ≡ Some q.note
key_removals-first k [] q qs e = absurd (omega (arith, ap length e))
key_removals-first k (r ∷ rs) q qs e = first_or (same_key k r.key) k r q rs qs (key_removals-first k rs q qs) e
