use Rattle.rev_pushers.proofs.pushed_text.put_told_prefixes.Goals as goal

pub returns : goal.returns
returns g c = rw (← c.as_slice.ensures.value) c.put_prefixes.ensures
