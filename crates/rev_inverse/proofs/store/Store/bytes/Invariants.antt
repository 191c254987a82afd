use Rattle.rev_inverse.proofs.store.Store.bytes.Given as goal

abbrev pub ghosts-queue_bytes : goal.ghosts-queue_bytes
ghosts-queue_bytes g a = record { name = a.blank.name; parts = a.blank.parts }
