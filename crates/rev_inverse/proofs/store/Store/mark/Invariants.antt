use Rattle.rev_inverse.proofs.store.Store.mark.Given as goal

abbrev pub ghosts-last_entry : goal.ghosts-last_entry
ghosts-last_entry g a = record { name = a.blank.name; parts = a.blank.parts }

abbrev pub ghosts-put_entry : goal.ghosts-put_entry
ghosts-put_entry g a = record { name = a.blank.name; parts = a.blank.parts }
