use Rattle.rev_options.proofs.asking.life_of.Goals as goal

pub returns-in-Some : goal.returns-in-Some
returns-in-Some c = c.if-life-ge1.true
