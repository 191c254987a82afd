use Rattle.std.proofs.Common.{true}
use Rattle.rev_replay.proofs.Going.{goes_more, goes_always}
use Rattle.rev_replay.proofs.run.Replay.put.Goals as goal

pub returns-in-Some : goal.returns-in-Some
returns-in-Some g c = goes_more true _ _ _ (goes_always _ _ c.push.ensures) c.see_restart.ensures
