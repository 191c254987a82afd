use Rattle.rev_inverse.proofs.store.Store.before.Given as goal

abbrev pub ghosts-before_entry : goal.ghosts-before_entry
ghosts-before_entry g a = record { name = a.blank.name; parts = a.blank.parts }
