use Rattle.std.proofs.Common.{sym, ◌∙◌}
use Rattle.rev_inverse.specs.Record.{plain_change}
use Rattle.rev_explain.proofs.Timing.{clock_told}
use Rattle.rev_explain.proofs.clocks.clock_before.Goals as goal

pub returns-in-Some-clock_in : goal.returns-in-Some-clock_in
returns-in-Some-clock_in g c = λ after e.
    clock_told c.args.trace.now.changes c.args.trace.now.moves c.loop-i.i c.in-Some-clock_in.earlier (plain_change c.in-Some.undo.now) after (c.loop-i.invariant after)
    c.in-Some.ensures.0 c.in-Some.ensures.1 (sym c.in-Some-clock_in.is ∙ c.clock_in.ensures)
