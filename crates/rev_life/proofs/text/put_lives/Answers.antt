use Rattle.rev_life.proofs.text.put_lives.Goals as goal

pub returns-in-Some : goal.returns-in-Some
returns-in-Some g c = rw (c.in-Some.is, ← c.as_slice.ensures.value, ← c.in_ok-put_all_ended.ensures) c.put_held.ensures
