-- What gathering the hashes of steps keeps at each node on the way up.
use Rattle.std.specs.Prelude.{ℕ, ◌≡◌, ◌-◌, ◌<◌, ◌≤◌, ◌⊎◌, false, nat_eq, List, [], ◌++◌, length, refl}
use Rattle.std.proofs.Common.{sym, subst}
use Rattle.rev_items.specs.Hash.{hash_of}
use Rattle.rev_model.specs.Actor.{Step}
use Rattle.rev_model.specs.Lists.{has}
use Rattle.rev_model.specs.Sound.{Sound}
use Rattle.rev_model.specs.State.{State}
use Rattle.rev_model.specs.Track.{key_place_of}
use Rattle.rev_model.specs.declared.Outcome.{Outcome}
use Rattle.rev_inverse.specs.Record.{PlainRecord}
use Rattle.rev_tree.specs.Machine.{lineage}
use Rattle.rev_tree.specs.Named.{named, stored_keys}
use Rattle.rev_tree.specs.Positions.{SessionState}
use Rattle.rev_tree.specs.Rows.{at}
use Rattle.rev_tree.specs.Trails.{Trailed}
use Rattle.rev_explain.proofs.Climbs.{at_end}
use Rattle.rev_explain.proofs.Searches.{Telling, tell_starts, tell_ends}
use Rattle.rev_lives.specs.Hashes.{Gathers, AreStill}
use Rattle.rev_lives.proofs.Unnamed.{tell_unnamed}

-- where the session stands
abbrev pub here : SessionState → State
here v = at v.root v.rows v.current

-- of a key whose hash the list lacks nothing is told below this depth, and the list of before lacks it, too
abbrev pub AreAside : SessionState → ℕ → (old now : List ℕ) → Type 0
AreAside v d old now = (k : List ℕ) → has nat_eq (hash_of k) now ≡ false → (has nat_eq (hash_of k) old ≡ false) × Telling v k d (key_place_of (here v) k) []

pub aside_starts : (v : SessionState) (old : List ℕ) → AreAside v (length (lineage v.rows v.current)) old old
aside_starts v old k lacks = (lacks, tell_starts v k (key_place_of (here v) k) [] refl refl)

pub aside_more : (v : SessionState) (d n : ℕ) (e : Step) (o : Outcome) (r : PlainRecord) (s : State) (old now new : List ℕ) → AreAside v d old now → 0 < d → Trailed v d n e o r
    → Sound s → s ≡ here v → Gathers now new (stored_keys e o ++ named s r.moves) → AreAside v (d - 1) old new
aside_more v d n e o r s old now new before pos trailed sound same gathers k lacks =
    let both = gathers (hash_of k) lacks in
    let aside = before k both.0 in (
      aside.0,
      tell_unnamed v (here v) k d n e o r (subst Sound same sound) aside.1 pos trailed (subst (λ t. has nat_eq (hash_of k) (stored_keys e o ++ named t r.moves) ≡ false) same both.1),
    )

pub aside_ends : (v : SessionState) (d : ℕ) (old now : List ℕ) → AreAside v d old now → (d ≡ 0) ⊎ (length (lineage v.rows v.current) < d) → AreStill v old now
aside_ends v d old now all ends k lacks =
    let aside = all k lacks in
    (aside.0, sym (tell_ends v k d (key_place_of (here v) k) [] aside.1 (at_end v d aside.1.climb ends)))
