use Rattle.rev_inverse.proofs.store.Store.put_to_free.Given as goal

abbrev pub ghosts-put_free : goal.ghosts-put_free
ghosts-put_free g a = record { name = a.blank.name; parts = a.blank.parts }
