use Rattle.rev_program.proofs.ruled.why_of_traces.Goals as goal

pub returns : goal.returns
returns g c = c.end_asking.ensures.ends
