use Rattle.std.proofs.Common.{rules}
use Rattle.rev_recorder.proofs.hand.Hand.player.Goals as goal

pub returns : goal.returns
returns c = search rules steps 500000
