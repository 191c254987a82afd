use Rattle.std.proofs.Common.{refl}
use Rattle.rev_trace.specs.Row.{operation_of}
use Rattle.rev_trace.proofs.row.operation_of.Goals as goal

pub returns-then-is_word-5 : goal.returns-then-is_word-5
unfolding operation_of
returns-then-is_word-5 c =
    rw (← c.is_word.ensures, c.if-is_word.false, ← c.is_word-else-is_word.ensures, c.if-is_word-2.false, ← c.is_word-else-is_word-2.ensures, c.if-is_word-3.false, ← c.is_word-else-is_word-3.ensures, c.if-is_word-4.false, ← c.is_word-else-is_word-4.ensures, c.if-is_word-5.true) refl
