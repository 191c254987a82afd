use Rattle.std.proofs.Common.{rules}
use Rattle.rev_rules.proofs.Taking.{taken_told}
use Rattle.rev_rules.proofs.grown.Growing.take_script.Goals as goal

pub returns-in-Ok-clause-ok : goal.returns-in-Ok-clause-ok
returns-in-Ok-clause-ok g c =
    let l = rw c.of-lines.ensures at c.in-Ok.ensures.ok in
    let m = rw (← c.into_source-reader.ensures) at l in
    let t = taken_told _ c.in-Ok.end (g.S.Source.told c.args.reader.now) (g.S.Source.told c.into_source-reader.result.now) _ _ _ _ m in
    search rules
