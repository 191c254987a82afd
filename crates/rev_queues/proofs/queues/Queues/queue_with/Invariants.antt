use Rattle.rev_queues.proofs.queues.Queues.queue_with.Given as goal

abbrev pub ghosts-queue_by : goal.ghosts-queue_by
ghosts-queue_by g a = record { name = a.blank.name; parts = a.blank.parts }
