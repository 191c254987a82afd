use Rattle.rev_pushers.proofs.pushed_text.put_by_prefix.Goals as goal

pub returns : goal.returns
returns g c = rw (← c.since_word.ensures, ← c.in_ok-put.ensures, ← c.in_ok-put_told_prefixes.ensures) c.put_others.ensures
