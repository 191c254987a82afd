use Rattle.std.proofs.Common.{rules}
use Rattle.rev_plays.proofs.Tracing.{traced_told}
use Rattle.rev_plays.proofs.trace.play_trace.Goals as goal

pub returns-in-Ok-played-clause-ok : goal.returns-in-Ok-played-clause-ok
returns-in-Ok-played-clause-ok g c =
    let l = rw c.of-lines.ensures at c.in-Ok-played.ensures.ok in
    let m = rw (← c.into_source-reader.ensures) at l in
    let t = traced_told _ c.in-Ok-played.end (g.S.Source.told c.args.reader.now) (g.S.Source.told c.into_source-reader.result.now) _ _ _ _ m in
    search rules
