use Rattle.rev_life.proofs.lines.put_move.Goals as goal

pub returns-clause-tokens : goal.returns-clause-tokens
returns-clause-tokens g c = rw (← c.queue_word.ensures, ← c.queue_word-2.ensures) c.put_parts.ensures.tokens
