-- The session that a program begins with.
-- Rule of this project: an empty store, and no node but the root.
use Rattle.std.specs.Prelude.{[]}
use Rattle.rev_classes.specs.declared.Config.{Config}
use Rattle.rev_inverse.specs.Empty.{empty_state}
use Rattle.rev_tree.specs.Positions.{SessionState}

-- the session of a program: an empty store, and no node but the root
abbrev pub opened : Config → SessionState
opened config = record { root = empty_state config; rows = []; current = 0 }
