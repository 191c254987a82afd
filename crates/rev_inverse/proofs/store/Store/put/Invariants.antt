use Rattle.rev_inverse.proofs.store.Store.put.Given as goal

abbrev pub ghosts-put_free : goal.ghosts-put_free
ghosts-put_free g a = record { name = a.blank.name; parts = a.blank.parts }

abbrev pub ghosts-put_entry : goal.ghosts-put_entry
ghosts-put_entry g a = record { name = a.blank.name; parts = a.blank.parts }
