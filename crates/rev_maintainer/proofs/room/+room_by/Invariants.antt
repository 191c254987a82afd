use Rattle.rev_maintainer.proofs.room.+room_by.Given as goal

abbrev pub decreases-room_by : goal.decreases-room_by
decreases-room_by g l = l.rounds
