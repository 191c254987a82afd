use Rattle.rev_life.proofs.lines.put_end.Goals as goal

pub returns-clause-tokens : goal.returns-clause-tokens
returns-clause-tokens g c = rw (← c.word.ensures, ← c.word-2.ensures) c.put_parts.ensures.tokens
