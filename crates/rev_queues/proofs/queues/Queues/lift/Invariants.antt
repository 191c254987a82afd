use Rattle.rev_queues.proofs.queues.Queues.lift.Given as goal

abbrev pub ghosts-lift_by : goal.ghosts-lift_by
ghosts-lift_by g a = record { name = a.blank.name; parts = a.blank.parts }
