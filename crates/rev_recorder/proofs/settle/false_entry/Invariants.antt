use Rattle.std.proofs.Common.{ℕ, ◌<◌, slice_index_or}
use Rattle.rev_recorder.specs.Hands.{PlainEntry}
use Rattle.rev_recorder.specs.Hands.{IsTrueEntry}
use Rattle.rev_recorder.proofs.settle.false_entry.Given as goal

abbrev pub invariant-loop-entry : goal.invariant-loop-entry
invariant-loop-entry l = (k : ℕ) (d : PlainEntry) → k < l.entry-index → IsTrueEntry l.session (slice_index_or l.entries k d)
