use Rattle.rev_plays.proofs.Starting.{fresh_state}
use Rattle.rev_plays.proofs.start.make_room.Goals as goal

pub returns-then-issued-ge-MOST_NODES-clause-state : goal.returns-then-issued-ge-MOST_NODES-clause-state
returns-then-issued-ge-MOST_NODES-clause-state g c = fresh_state c.restart.new.self _ c.restart.ensures
