-- What a contract sees of the keys of one part.
-- Rule of this project: keys as lists of bytes.
use Rattle.std.specs.Prelude.{ℕ, List, map}
use Rattle.std.specs.declared.vec.Vec.{Vec}
use Rattle.rev_evidence.specs.declared.departed.Told.{Told}

-- keys as lists of bytes, with what is told of each
abbrev pub plain_part : {A : Type 0} → List (Vec ℕ A × Told) → List (List ℕ × Told)
plain_part entries = map (λ e. (e.0.items, e.1)) entries
