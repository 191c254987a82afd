-- The log of a recorder's calls, and when it is legal for the rows of a session.
-- Rule of this project: calls stand in the order in which the tree took them.
use Rattle.std.specs.Prelude.{◌≡◌, ℕ, ◌+◌, ◌<◌, true, false, List, [], ◌∷◌, length, take, Option, Some}
use Rattle.rev_tree.specs.Rows.{Row, parent_of}
use Rattle.rev_tree.specs.Finds.{is_held}
use Rattle.rev_tree.specs.Machine.{nesting_below}
use Rattle.rev_tree.specs.Positions.{SessionState}
use Rattle.rev_recorder.specs.declared.hand.Call.{Call}
use Rattle.rev_recorder.specs.declared.hand.Call.TheVariants.{Play, Go, Many, Deep, Lost}
use Rattle.rev_recorder.specs.declared.hand.LogRow.{LogRow}

-- where a log begins: how many numbers were given out by then, and the node that was the current one
pub record Opening : Type 0 where
  pub count : ℕ
  pub node : ℕ

-- the call may stand where the first count of the rows were played and node is the current one: a play makes the node
-- of the next number, below the current one; a go leads to a node that was held; and a refused call stands only where
-- the tree refuses it
abbrev pub MayStand : List (Option Row) → ℕ → ℕ → Call → Type 0
MayStand rows count node (Play n) = (n.0 ≡ count + 1) × (parent_of rows n.0 ≡ Some node)
MayStand rows count node (Go n) = is_held (take count rows) n.0 ≡ true
MayStand rows count node Many = count ≡ 1048576
MayStand rows count node Deep = (count < 1048576) × (64 < nesting_below (take count rows) node)
MayStand rows count node (Lost n) = is_held (take count rows) n.0 ≡ false

-- how many rows there are after the call: a play adds one
abbrev pub count_after : ℕ → Call → ℕ
count_after count (Play n) = count + 1
count_after count (Go n) = count
count_after count Many = count
count_after count Deep = count
count_after count (Lost n) = count

-- the current node after the call: a refused call leaves it
abbrev pub node_after : ℕ → Call → ℕ
node_after node (Play n) = n.0
node_after node (Go n) = n.0
node_after node Many = node
node_after node Deep = node
node_after node (Lost n) = node

-- from the first count of the rows and the node, call by call, the log leads to exactly these rows and the last node
abbrev pub NodesLeadTo : List (Option Row) → ℕ → ℕ → List LogRow → ℕ → Type 0
NodesLeadTo rows count node [] last = (count ≡ length rows) × (node ≡ last)
NodesLeadTo rows count node (entry ∷ log) last =
    MayStand rows count node entry.call × NodesLeadTo rows (count_after count entry.call) (node_after node entry.call) log last

-- the log is legal for the session: it leads from its opening to the session's rows and current node
abbrev pub IsLegal : Opening → List LogRow → SessionState → Type 0
IsLegal opening log session = NodesLeadTo session.rows opening.count opening.node log session.current

-- what lies under the lock, as plain data
pub record PlainRecording : Type 0 where
  pub session : SessionState
  pub log : List LogRow
  pub opening : Opening
