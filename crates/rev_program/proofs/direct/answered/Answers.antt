use Rattle.std.proofs.Common.{inl, Err}
use Rattle.rev_program.proofs.Ends.{stopped_of, unnoted}
use Rattle.rev_program.proofs.direct.answered.Goals as goal

pub returns-in-Err-clause-ends : goal.returns-in-Err-clause-ends
returns-in-Err-clause-ends g c =
    unnoted _ _ _ _ _ c.ended.ensures.quiet (λ n. inl (stopped_of _ _ _ _ (Err c.in-Err.stop) _ c.ended.ensures.status c.ended.ensures.told n))

pub returns-in-Ok-clause-ends : goal.returns-in-Ok-clause-ends
returns-in-Ok-clause-ends g c = record {
  notes = c.args.notes.now;
  between = g.E.Sink.contents c.tell_bytes.new.errors;
  failures = g.E.Sink.failures c.tell_bytes.new.errors;
  noted = c.tell_bytes.ensures;
  quiet = c.ended-in-Ok.ensures.quiet;
  early = λ n. inl (stopped_of _ _ _ _ c.answer_opened.result _ c.ended-in-Ok.ensures.status c.ended-in-Ok.ensures.told n);
}
