use Rattle.std.proofs.Common.{inl, inr}
use Rattle.std.proofs.lemmas.Bool.{cases_Bool}
use Rattle.rev_watch.specs.Keys.{is_encoded}
use Rattle.rev_watch.proofs.KeyLemmas.{key_too_long, no_escape, decoded_is_shorter}
use Rattle.rev_watch.proofs.key.key_of.Goals as goal

pub returns-then-not-decode : goal.returns-then-not-decode
returns-then-not-decode g c other =
    let text = c.args.text.now in
    elim (cases_Bool (is_encoded text)) [
      | inl e ↦ rw (c.fault_of.ensures.encoded e) (key_too_long text e (c.decode.ensures.none c.if-not-decode.true e))
      | inr e ↦ rw (c.fault_of.ensures.other e) (no_escape text e)
    ]

pub overflow_sub-text : goal.overflow_sub-text
overflow_sub-text g c = rw c.len.ensures.value (decoded_is_shorter c.args.text.now c.decode.new.bytes.items (c.decode.ensures.all c.if-not-decode.false))
