use Rattle.rev_inverse.proofs.store.Store.take.Given as goal

abbrev pub ghosts-take_free : goal.ghosts-take_free
ghosts-take_free g a = record { name = a.blank.name; parts = a.blank.parts }

abbrev pub ghosts-take_entry : goal.ghosts-take_entry
ghosts-take_entry g a = record { name = a.blank.name; parts = a.blank.parts }
