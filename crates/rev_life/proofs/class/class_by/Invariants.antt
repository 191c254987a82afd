use Rattle.std.proofs.Common.{◌≡◌, drop}
use Rattle.rev_life.specs.Class.{class_by}
use Rattle.rev_life.proofs.class.class_by.Given as goal

-- no change up to here does so
abbrev pub invariant-loop-i : goal.invariant-loop-i
invariant-loop-i g l = class_by l.trace.changes l.key ≡ class_by (drop l.i l.trace.changes) l.key
