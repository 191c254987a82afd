use Rattle.std.proofs.Common.{arith}
use Rattle.std.proofs.lemmas.Bool.{eqb-true}
use Rattle.rev_tree.proofs.Latest.{leads_past_it}
use Rattle.rev_tree.proofs.links.leads_past.Goals as goal

pub returns-then-entry-bound : goal.returns-then-entry-bound
returns-then-entry-bound c = λ t.
    leads_past_it c.args.entries.now c.args.count c.args.place c.args.bound c.args.cursor c.args.link c.bucket.result (omega (arith, c.if-link-eq0.false)) c.if-link-cursor.false c.if-entry-bound.true c.bucket.ensures.value (eqb-true c.bucket.result c.args.place t)
