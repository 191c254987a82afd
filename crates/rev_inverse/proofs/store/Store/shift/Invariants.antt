use Rattle.rev_inverse.proofs.store.Store.shift.Given as goal

abbrev pub ghosts-take_entry : goal.ghosts-take_entry
ghosts-take_entry g a = record { name = a.blank.name; parts = a.blank.parts }

abbrev pub ghosts-put_entry : goal.ghosts-put_entry
ghosts-put_entry g a = record { name = a.blank.name; parts = a.blank.parts }
