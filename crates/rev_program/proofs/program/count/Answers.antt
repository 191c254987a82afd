use Rattle.rev_program.proofs.program.count.Goals as goal

pub returns : goal.returns
returns g c = record {
  between = g.E.Sink.contents c.tell_tally.new.errors;
  failures = g.E.Sink.failures c.tell_tally.new.errors;
  bad = c.tell_tally.ensures;
  refused = c.tell_tally-2.ensures;
}
