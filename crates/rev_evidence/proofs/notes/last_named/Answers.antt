use Rattle.std.proofs.Common.{arith, sym, ◌∙◌, ap}
use Rattle.rev_evidence.specs.Notes.{named_in}
use Rattle.rev_evidence.proofs.Naming.{named_above}
use Rattle.rev_evidence.proofs.notes.last_named.Goals as goal

pub nodes-preserved : goal.nodes-preserved
nodes-preserved c =
    c.nodes.invariant
    ∙ named_above c.args.moments.now c.args.hash c.args.time c.nodes.nodes (omega (arith, c.nodes-test.true))
    (sym c.in-None.is ∙ c.named_in.ensures ∙ ap (named_in c.args.hash c.args.time) c.of_node.ensures)
