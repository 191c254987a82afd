use Rattle.rev_life.proofs.text.put_culprit.Goals as goal

pub returns-in-Some : goal.returns-in-Some
returns-in-Some g c = rw (c.in-Some.is, ← c.bytes.ensures.same) c.put.ensures
