use Rattle.rev_program.proofs.placed.found_in.Goals as goal

pub returns-in-None : goal.returns-in-None
returns-in-None g c = rw c.in-None.is c.no_place.ensures

pub returns-in-Ok : goal.returns-in-Ok
returns-in-Ok g c = rw c.in-Some.is c.in-Ok.ensures
