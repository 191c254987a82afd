use Rattle.rev_inverse.proofs.store.Store.tail.Given as goal

abbrev pub ghosts-tail_chunk : goal.ghosts-tail_chunk
ghosts-tail_chunk g a = record { name = a.blank.name; parts = a.blank.parts }
