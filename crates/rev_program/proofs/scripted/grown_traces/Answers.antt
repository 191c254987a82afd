use Rattle.rev_program.proofs.Grows.{grown_from, placed_from}
use Rattle.rev_program.proofs.scripted.grown_traces.Goals as goal

pub returns-in-Ok-on-clause-grown : goal.returns-in-Ok-on-clause-grown
returns-in-Ok-on-clause-grown g c =
    grown_from _ _ _ _ _ _ _ _ _ _ _ c.in-Ok-on.ensures c.grow_files-played.ensures _ c.in-Ok.ensures.ok c.grown_or.ensures.session c.grown_or.ensures.before c.grown_or.ensures.full

pub returns-in-Ok-on-clause-spot : goal.returns-in-Ok-on-clause-spot
returns-in-Ok-on-clause-spot g c =
    placed_from _ _ c.args.config.now c.args.starts.items _ _ _ _ _ _ _ c.in-Ok-on.ensures c.grow_files-played.ensures _ c.grown_or.ensures.full c.grown_or.ensures.spot
