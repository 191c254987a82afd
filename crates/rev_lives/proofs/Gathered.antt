-- What is known of an event whose line's key and steps were gathered.
use Rattle.std.specs.Prelude.{ℕ, ◌≡◌, false, nat_eq, List, Option}
use Rattle.std.specs.Option.{option_copied}
use Rattle.std.proofs.Common.{subst}
use Rattle.rev_items.specs.Hash.{hash_of}
use Rattle.rev_model.specs.Lists.{has}
use Rattle.rev_tree.specs.Named.{none_or}
use Rattle.rev_evidence.specs.Heard.{named, key_hash}
use Rattle.rev_replay.specs.declared.heard.Heard.{Heard}
use Rattle.rev_lives.specs.Hashes.{Gathers, AreStill, IsAside}
use Rattle.rev_lives.proofs.Lacks.{other_named}

pub aside_of : {A : Type 0} (h : Heard A) (old now new : List ℕ) (o : Option ℕ) → o ≡ key_hash (option_copied h.event) → Gathers old now (none_or o) → AreStill h.session.now now new → (k : List ℕ) → has nat_eq (hash_of k) new ≡ false → IsAside h k
aside_of h old now new o same line steps k lacks =
    let both = steps k lacks in
    record { still = both.1; unnamed = other_named k (named (option_copied h.event)) (subst (λ z. has nat_eq (hash_of k) (none_or z) ≡ false) same (line (hash_of k) both.0).1) }
