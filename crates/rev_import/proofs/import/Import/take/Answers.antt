use Rattle.rev_import.proofs.Moved.{moves_behind, waiting_of}
use Rattle.rev_import.proofs.import.Import.take.Goals as goal

pub returns : goal.returns
returns g c = moves_behind _ _ _ _ (waiting_of c.self.view_is) (waiting_of c.self-2.view_is) c.in_ok-push_back.ensures.items c.in_ok-make_room.ensures
