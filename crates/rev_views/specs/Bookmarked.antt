-- What a contract sees of bookmarks.
-- Rule of this project: names as lists of bytes, nodes as numbers.
use Rattle.std.specs.Prelude.{ℕ, List, map}
use Rattle.std.specs.declared.vec.Vec.{Vec}
use Rattle.rev_undotree.specs.declared.session.NodeId.{NodeId}

-- names as lists of bytes, nodes as numbers
abbrev pub plain_bookmarks : {A : Type 0} → List (Vec ℕ A × NodeId) → List (List ℕ × ℕ)
plain_bookmarks entries = map (λ e. (e.0.items, e.1.0)) entries
