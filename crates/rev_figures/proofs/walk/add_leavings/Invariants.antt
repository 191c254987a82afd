use Rattle.std.proofs.Common.{◌≡◌, ◌++◌, take}
use Rattle.rev_figures.specs.Asking.{ask_in}
use Rattle.rev_figures.specs.Rows.{leaving_rows}
use Rattle.rev_figures.proofs.walk.add_leavings.Given as goal

abbrev pub invariant-loop-key : goal.invariant-loop-key
invariant-loop-key g l = l.leavings.items ≡ l.fn.leavings.items ++ leaving_rows l.store l.step l.second (λ k. ask_in l.asks.keys.entries k) (take l.key-index l.gone)
