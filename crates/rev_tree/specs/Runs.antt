-- A run as it is kept: what its nodes are beside their records, and the records apart from that.
-- Rule of this project: nodes and their records lie in two lists, side by side.
use Rattle.std.specs.Prelude.{ℕ, List, [], ◌∷◌}
use Rattle.rev_inverse.specs.Record.{flat}
use Rattle.rev_tree.specs.Steps.{Step, Outcome, PlainRecord}
use Rattle.rev_tree.specs.Tree.{PlainNode}

-- what a node is beside its record
pub record PlainHead : Type 0 where
  pub number : ℕ
  pub step : Step
  pub outcome : Outcome

-- the node of a head and a record; in which changes the record keeps its moves is not seen
abbrev pub node_of : PlainHead → PlainRecord → PlainNode
node_of h r = record { number = h.number; step = h.step; outcome = h.outcome; undo = flat r }

-- the nodes of a run: each head with the record at the same place
abbrev pub nodes_of : List PlainHead → List PlainRecord → List PlainNode
nodes_of [] rs = []
nodes_of (h ∷ hs) [] = []
nodes_of (h ∷ hs) (r ∷ rs) = node_of h r ∷ nodes_of hs rs
