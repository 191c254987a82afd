use Rattle.rev_explain.specs.Clocks.{clock_at as clock_of}
use Rattle.rev_explain.proofs.clocks.clock_at.Goals as goal

pub returns-then-is_at : goal.returns-then-is_at
returns-then-is_at g c = c.clock_on_way.ensures (clock_of c.args.session.now.root c.args.session.now.rows c.args.node.0) (c.is_at.ensures c.if-is_at.true)
