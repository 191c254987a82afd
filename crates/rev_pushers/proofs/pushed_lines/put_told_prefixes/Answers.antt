use Rattle.rev_pushers.proofs.pushed_lines.put_told_prefixes.Goals as goal

pub returns-clause-tokens : goal.returns-clause-tokens
returns-clause-tokens g c = rw (← c.as_slice.ensures.value) c.put_prefixes.ensures.tokens
