-- What a log of mentions says.
-- Rule of this project: which hash is mentioned at which node.
use Rattle.std.specs.Prelude.{◌≡◌, ℕ, ◌≤◌, List, Some, slice_get}
use Rattle.rev_tree.specs.declared.mention.Mention.{Mention}

-- the hash h is mentioned at node n
abbrev pub Holds : List Mention → ℕ → ℕ → Type 0
Holds ms h n = (i : ℕ) × (slice_get ms i ≡ Some (record { hash = h; node = n }))

-- no mention is of a node over n
abbrev pub Within : List Mention → ℕ → Type 0
Within ms n = (i : ℕ) (m : Mention) → slice_get ms i ≡ Some m → m.node ≤ n
