use Rattle.std.proofs.Common.{inl, Err}
use Rattle.rev_messages.specs.declared.stop.Stop.TheVariants.{Memory}
use Rattle.rev_program.proofs.Ends.{stopped_of, plainly}
use Rattle.rev_program.proofs.opening.answer_stood.Goals as goal

pub returns-in-Err-clause-ends : goal.returns-in-Err-clause-ends
returns-in-Err-clause-ends g c =
    plainly _ _ _ _ _ c.ended.ensures.quiet (λ n. inl (stopped_of _ _ _ _ (Err Memory) _ c.ended.ensures.status c.ended.ensures.told n))

pub returns-in-Ok-clause-ends : goal.returns-in-Ok-clause-ends
returns-in-Ok-clause-ends g c = record {
  full = c.args.full.now;
  at = c.args.opened.at;
  between = g.E.Sink.contents c.note.new.errors;
  failures = g.E.Sink.failures c.note.new.errors;
  noted = c.note.ensures;
  quiet = c.ended-in-Ok.ensures.quiet;
  early = λ n. inl (stopped_of _ _ _ _ c.answer_opened.result _ c.ended-in-Ok.ensures.status c.ended-in-Ok.ensures.told n);
}
