use Rattle.rev_replay.specs.Replayed.{noting_of}
use Rattle.rev_replay.proofs.Noting.{noted_all}
use Rattle.rev_replay.proofs.moments.Noting.note.Goals as goal

pub returns : goal.returns
returns g c = noted_all c.resize.result (noting_of c.args.self.now) _ _ _ _ c.args.self.now.moments.ok.0 c.resize.ensures.items
