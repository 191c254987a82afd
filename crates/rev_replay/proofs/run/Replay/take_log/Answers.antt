use Rattle.std.proofs.Common.{true}
use Rattle.rev_replay.proofs.Going.{goes_more, goes_always}
use Rattle.rev_replay.proofs.run.Replay.take_log.Goals as goal

pub loop-preserved : goal.loop-preserved
loop-preserved g c = record {
  on = goes_more true _ _ _ (goes_always _ _ c.pass.ensures) (goes_more true _ _ _ c.read.ensures c.loop.invariant.on);
}
