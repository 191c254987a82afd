use Rattle.rev_lives.proofs.Lacks.{IsSoFar}
use Rattle.rev_lives.proofs.hashes.note_record.Given as goal

-- the keys that the changes before the i-th name are noted
abbrev pub invariant-loop-i : goal.invariant-loop-i
invariant-loop-i g l = IsSoFar l.fn.hashes.items l.hashes.items l.store l.trace.changes l.i
