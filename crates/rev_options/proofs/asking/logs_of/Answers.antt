use Rattle.rev_options.proofs.asking.logs_of.Goals as goal

pub returns : goal.returns
returns c = (c.in_ok-logs.ensures, rw (← c.in_ok-logs.logs.ok.0, ← c.len.ensures) c.if-len-gt-MOST_LOGS.false)
