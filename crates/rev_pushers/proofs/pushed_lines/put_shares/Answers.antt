use Rattle.rev_pushers.proofs.pushed_lines.put_shares.Goals as goal

pub returns-clause-tokens : goal.returns-clause-tokens
returns-clause-tokens g c =
    rw (← c.as_slice.ensures.value, ← c.in_ok-put_parts.ensures.tokens, ← c.in_ok-put_told_prefixes.ensures.tokens, ← c.in_ok-put_parts-2.ensures.tokens, ← c.in_ok-put_connections.ensures.tokens)
    c.put_others.ensures.tokens
