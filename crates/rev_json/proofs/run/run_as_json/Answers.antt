use Rattle.std.proofs.Common.{rules}
use Rattle.rev_json.proofs.Telling.{told_of_lent}
use Rattle.rev_json.proofs.run.run_as_json.Goals as goal

pub returns-clause-ok : goal.returns-clause-ok
returns-clause-ok g c =
    let l = rw c.of-lines.ensures at c.in-Ok.ensures.ok in
    let m = rw (← c.into_source-streams.ensures) at l in
    let t = told_of_lent (g.X.Source.told c.args.streams.now) (g.X.Source.told c.into_source-streams.result.now) _ _ m in
    let n = rw c.new-bookmarks.ensures at t in
    search rules
