use Rattle.rev_inverse.proofs.store.Store.queue_entry.Given as goal

abbrev pub ghosts-head_entry : goal.ghosts-head_entry
ghosts-head_entry g a = record { name = a.blank.name; parts = a.blank.parts }

abbrev pub ghosts-behind_entry : goal.ghosts-behind_entry
ghosts-behind_entry g a = record { name = a.blank.name; parts = a.blank.parts }
