use Rattle.std.proofs.Common.{true}
use Rattle.rev_replay.proofs.Going.{goes_more, goes_always}
use Rattle.rev_replay.proofs.logs.replay_logs.Goals as goal

pub returns-in-Err-finish : goal.returns-in-Err-finish
returns-in-Err-finish g c = goes_more true _ _ _ (goes_always _ _ c.finish.ensures) c.files.invariant.on

pub returns : goal.returns
returns g c = goes_more true _ _ _ (goes_always _ _ c.finish.ensures) c.files.invariant.on
