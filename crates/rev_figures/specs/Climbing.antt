-- A session that has gone up from a node.
-- Rule of this project: a way that is read may end above the node where it began, and the session is as it was but for
-- that.
use Rattle.std.specs.Prelude.{◌≡◌, ℕ, List, [], ◌++◌}
use Rattle.rev_tree.specs.Machine.{lineage}
use Rattle.rev_tree.specs.Positions.{SessionState}

-- the session stands at a node on the way from the root to where it stood
pub record HasClimbed (v now : SessionState) : Type 0 where
  pub node : ℕ
  pub below : List ℕ
  pub stands : now ≡ record v { current = node }
  pub splits : lineage v.rows v.current ≡ lineage v.rows node ++ below
  pub stays : below ≡ [] → node ≡ v.current
