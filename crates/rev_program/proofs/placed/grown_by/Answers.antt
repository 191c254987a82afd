use Rattle.rev_program.proofs.placed.grown_by.Goals as goal

pub returns-in-Ok-grow-clause-grown : goal.returns-in-Ok-grow-clause-grown
returns-in-Ok-grow-clause-grown g c = record { keeping = c.args.keeping; first = c.in-Ok.session; grows = c.in-Ok-grow.ensures.grows }
