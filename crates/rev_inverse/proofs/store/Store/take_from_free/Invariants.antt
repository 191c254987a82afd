use Rattle.rev_inverse.proofs.store.Store.take_from_free.Given as goal

abbrev pub ghosts-take_free : goal.ghosts-take_free
ghosts-take_free g a = record { name = a.blank.name; parts = a.blank.parts }
