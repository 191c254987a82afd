use Rattle.rev_inverse.proofs.store.Store.front.Given as goal

abbrev pub ghosts-front_free : goal.ghosts-front_free
ghosts-front_free g a = record { name = a.blank.name; parts = a.blank.parts }
