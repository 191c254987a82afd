use Rattle.std.proofs.Common.{◌≤◌, length, sym, ◌∙◌, arith}
use Rattle.std.proofs.lemmas.Bool.Decides.{nat_tests}
use Rattle.rev_options.proofs.ruled.traces_of.Goals as goal

pub asked_traces-requires : goal.asked_traces-requires
asked_traces-requires g =
    let some : 1 ≤ length g.in_ok-scripts.scripts.items = grind (arith, nat_tests, g.in_ok-scripts.scripts.ok.0, sym g.is_empty.ensures ∙ g.if-not-is_empty.true) in
    some
