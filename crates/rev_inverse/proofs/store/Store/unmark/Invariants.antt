use Rattle.rev_inverse.proofs.store.Store.unmark.Given as goal

abbrev pub ghosts-take_entry : goal.ghosts-take_entry
ghosts-take_entry g a = record { name = a.blank.name; parts = a.blank.parts }
