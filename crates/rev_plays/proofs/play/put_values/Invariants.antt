use Rattle.std.proofs.Common.{◌≡◌, ◌++◌}
use Rattle.rev_plays.specs.Replies.{values, after_gets}
use Rattle.rev_plays.proofs.play.put_values.Given as goal

-- with the keys that are left, what was written becomes the line's answer, and the session what the line makes of it
abbrev pub invariant-loop-key : goal.invariant-loop-key
invariant-loop-key g l = record {
  text : l.answer.items ++ values l.with_cas l.session l.key-iterator.rest.items ≡ l.fn.answer.items ++ values l.fn.with_cas l.fn.session l.fn.keys.items;
  session : after_gets l.session l.key-iterator.rest.items ≡ after_gets l.fn.session l.fn.keys.items;
}
