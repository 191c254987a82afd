use denote.Param.Send.{sendable}
use Rattle.std.proofs.Crossing.{crosses}
use Rattle.rev_recorder.proofs.Sends.{recorder_sync}
use Rattle.rev_tests.proofs.recorder.threads.call_at_once.Goals as goal

pub for_each_mut-requires-sync-F : goal.for_each_mut-requires-sync-F
for_each_mut-requires-sync-F g c κs within = search (sendable, crosses, recorder_sync) depth 60
