-- Which keys an event may concern, by their hashes.
-- Rule of this project: an event does nothing to a key that its line does not name, and to which none of its steps did
-- anything.
use Rattle.std.specs.Prelude.{◌≡◌, ℕ, false, List, [], nat_eq}
use Rattle.std.specs.Option.{option_copied}
use Rattle.rev_items.specs.Hash.{hash_of}
use Rattle.rev_model.specs.Lists.{has}
use Rattle.rev_tree.specs.Positions.{SessionState}
use Rattle.rev_explain.specs.Story.{story}
use Rattle.rev_evidence.specs.Heard.{names}
use Rattle.rev_replay.specs.declared.heard.Heard.{Heard}

-- what the new list lacks, the old one lacks, and these lack it, too
abbrev pub Gathers : (old new these : List ℕ) → Type 0
Gathers old new these = (h : ℕ) → has nat_eq h new ≡ false → (has nat_eq h old ≡ false) × (has nat_eq h these ≡ false)

-- a key whose hash the new list lacks has no story, and the old list lacks the hash, too
abbrev pub AreStill : SessionState → (old new : List ℕ) → Type 0
AreStill v old new = (k : List ℕ) → has nat_eq (hash_of k) new ≡ false → (has nat_eq (hash_of k) old ≡ false) × (story v.root v.rows v.current k ≡ [])

-- the event does nothing to the key
pub record IsAside {A : Type 0} (h : Heard A) (k : List ℕ) : Type 0 where
  pub still : story h.session.now.root h.session.now.rows h.session.now.current k ≡ []
  pub unnamed : names (option_copied h.event) k ≡ false
