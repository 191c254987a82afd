use Rattle.rev_replay.proofs.Limited.{grows_limited}
use Rattle.rev_replay.proofs.grown.grow.Goals as goal

pub returns-in-Ok-grown_of-clause-grows : goal.returns-in-Ok-grown_of-clause-grows
returns-in-Ok-grown_of-clause-grows g c =
    grows_limited c.args.keeping c.args.server.setup.now.config c.args.session _ _ _ _ _ _ c.in-Ok.ensures c.limit_to_sample.ensures.same c.replay_logs-replayed.ensures c.in-Ok-grown_of.ensures.stage c.in-Ok-grown_of.ensures.moments
