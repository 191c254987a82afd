use Rattle.std.proofs.Common.{◌≡◌, drop}
use Rattle.rev_model.specs.Track.{class_queue_before}
use Rattle.rev_inverse.specs.Record.{moves_in}
use Rattle.rev_explain.proofs.readings.find_queue.Given as goal

abbrev pub invariant-loop-i : goal.invariant-loop-i
invariant-loop-i g l = class_queue_before l.home l.lru l.trace.moves l.fn.chunk ≡ class_queue_before l.home l.lru (moves_in (drop l.i l.trace.changes)) l.sought
