use Rattle.std.proofs.Common.{◌≡◌, drop}
use Rattle.rev_model.specs.Track.{keyed}
use Rattle.rev_inverse.specs.Record.{moves_in}
use Rattle.rev_explain.proofs.readings.is_keyed.Given as goal

-- the chunk that is sought here has the key's item if the first one has it in the end
abbrev pub invariant-loop-i : goal.invariant-loop-i
invariant-loop-i g l = keyed l.key l.home (moves_in (drop l.start l.trace.changes)) l.fn.chunk ≡ keyed l.key l.home (moves_in (drop l.i l.trace.changes)) l.sought
