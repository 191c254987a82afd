use Rattle.rev_queues.proofs.queues.Queues.has_mark.Given as goal

abbrev pub ghosts-tally : goal.ghosts-tally
ghosts-tally g a = record { name = a.blank.name; parts = a.blank.parts }
