use Rattle.rev_pushers.proofs.pushed_lines.put_pushed.Goals as goal

pub returns-in-None-clause-tokens : goal.returns-in-None-clause-tokens
returns-in-None-clause-tokens g c = rw c.in-None.is c.put_parts.ensures.tokens
