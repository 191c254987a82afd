-- What the commands of the tree answer, and where they go.
-- Rule of this project: `:back`, `:forward`, `:go`, `:tree` and `:prune`.
use Rattle.std.specs.Prelude.{ℕ, suc, cond, nat_eq, List, [], ◌∷◌, ◌++◌, slice_get, Option, None, Some, codes, decimal}
use Rattle.rev_tree.specs.Steps.{outcome_of}
use Rattle.rev_tree.specs.Rows.{Row, at}
use Rattle.rev_tree.specs.Finds.{is_held}
use Rattle.rev_tree.specs.Machine.{children, distance}
use Rattle.rev_tree.specs.Prunes.{pruned, is_below}
use Rattle.rev_tree.specs.Positions.{SessionState}
use Rattle.rev_texts.specs.Texts.{output, node_text}
use Rattle.rev_texts.specs.Words.{step_word, outcome_word}

-- to a node, where there is one
abbrev pub gone_to : SessionState → Option ℕ → SessionState
gone_to m None = m
gone_to m (Some n) = record m { current = n }

-- ---- the child of the current node by its place from 0, by rising number

-- the i-th child of the current node
abbrev pub child_at : SessionState → ℕ → Option ℕ
child_at m i = slice_get (children m.rows m.current) i

-- the answer to `:forward`
abbrev pub child_text : Option ℕ → List ℕ
child_text None = output (codes "NOCHILD")
child_text (Some n) = node_text n

-- ---- a node by its number

-- the answer to `:go`
abbrev pub trip_text : ℕ → ℕ → List ℕ
trip_text n turns = output (codes "NODE " ++ decimal n ++ codes " TURNS " ++ decimal turns)

-- a node that is not held is not gone to
abbrev pub go_text : SessionState → ℕ → List ℕ
go_text m n = cond (is_held m.rows n) (trip_text n (distance m.rows m.current n)) (output (codes "NONODE"))

-- the session at node n, where it is held
abbrev pub gone : SessionState → ℕ → SessionState
gone m n = cond (is_held m.rows n) (record m { current = n }) m

-- ---- pruning: a node that is not held, the root, and a node on the way to the current one stay

-- one of four: node n is not held, is the root, stands on the way to the current node, or may be pruned
abbrev pub by_prune : {X : Type 0} → SessionState → ℕ → X → X → X → X → X
by_prune m n missing root path done = cond (is_held m.rows n) (cond (nat_eq n 0) root (cond (is_below m.rows n m.current) path done)) missing

-- the answer of a prune that was done
abbrev pub pruned_text : ℕ → List ℕ
pruned_text n = output (codes "PRUNED " ++ decimal n)

-- the answer to `:prune`
abbrev pub prune_text : SessionState → ℕ → List ℕ
prune_text m n = by_prune m n (output (codes "NONODE")) (output (codes "ROOT")) (output (codes "ONPATH")) (pruned_text n)

-- the session after it
abbrev pub after_prune : SessionState → ℕ → SessionState
after_prune m n = by_prune m n m m m (record m { rows = pruned m.rows n })

-- ---- the tree

-- the line of a node that is held: its number, its parent's, its step, and what that answered
abbrev pub row_text : SessionState → ℕ → Option Row → List ℕ
row_text m n None = []
row_text m n (Some r) =
    output (decimal n ++ codes " " ++ decimal r.parent ++ codes " " ++ step_word r.step ++ codes " " ++ outcome_word (outcome_of (at m.root m.rows r.parent) r.step))

-- the lines of these rows, which stand behind the first n
abbrev pub rows_text : SessionState → ℕ → List (Option Row) → List ℕ
rows_text m n [] = []
rows_text m n (q ∷ qs) = row_text m (suc n) q ++ rows_text m (suc n) qs

-- the answer to `:tree`
abbrev pub tree_text : SessionState → List ℕ
tree_text m = output (codes "0 - root -") ++ rows_text m 0 m.rows ++ output (codes "END")
