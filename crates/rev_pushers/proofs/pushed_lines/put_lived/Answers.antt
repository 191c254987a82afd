use Rattle.rev_pushers.proofs.pushed_lines.put_lived.Goals as goal

pub returns-clause-tokens : goal.returns-clause-tokens
returns-clause-tokens g c = rw (← c.lived_before.ensures, ← c.ago.ensures) c.put_parts.ensures.tokens
