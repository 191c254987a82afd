use Rattle.std.proofs.Common.{length, ap, arith}
use Rattle.rev_watch.proofs.HeldLemmas.{length-together}
use Rattle.rev_watch.proofs.held.HeldLines.len.Goals as goal

pub returns : goal.returns
returns g c =
    omega (arith, c.len.ensures, c.len-2.ensures.value, c.len-2.ensures.small, c.self.inside.run.ok.0, length-together c.self.inside.run.items c.self.inside.strays c.self.invariant, ap length c.self.view_is)
