use Rattle.rev_inverse.proofs.store.Store.free_at.Given as goal

abbrev pub ghosts-front_free : goal.ghosts-front_free
ghosts-front_free g a = record { name = a.blank.name; parts = a.blank.parts }

abbrev pub ghosts-behind_free : goal.ghosts-behind_free
ghosts-behind_free g a = record { name = a.blank.name; parts = a.blank.parts }
