use Rattle.std.proofs.Common.{rules}
use Rattle.rev_shell.proofs.Runs.{nothing_read, left_told}
use Rattle.rev_shell.proofs.run.run_session.Goals as goal

pub returns-in_default-clause-err : goal.returns-in_default-clause-err
returns-in_default-clause-err g c = nothing_read _ _ _ _ _

pub returns-clause-ok : goal.returns-clause-ok
returns-clause-ok g c =
    let l = rw c.of-lines.ensures at c.in-Ok-ended.ensures.ok in
    let m = rw (← c.into_source-streams.ensures) at l in
    let t = left_told (g.X.Source.told c.args.streams.now) (g.X.Source.told c.into_source-streams.result.now) _ _ m in
    let n = rw c.new-bookmarks.ensures at t in
    search rules
