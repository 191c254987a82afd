use Rattle.rev_options.proofs.asking.asking_of.Goals as goal

pub returns-in-Some-clause-lives : goal.returns-in-Some-clause-lives
returns-in-Some-clause-lives c = rw c.if-asks_why.true c.why_request.ensures.lives

pub returns-in-Some-subcommand_matches-clause-lives : goal.returns-in-Some-subcommand_matches-clause-lives
returns-in-Some-subcommand_matches-clause-lives c = c.gone_request.ensures.lives c.args.asks_why
