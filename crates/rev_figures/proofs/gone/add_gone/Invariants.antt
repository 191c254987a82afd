use Rattle.std.proofs.Common.{◌≡◌, ◌++◌, reverse}
use Rattle.rev_model.specs.State.{State}
use Rattle.rev_requests.specs.Plain.{plain_step}
use Rattle.rev_explain.specs.Departures.{departures_in}
use Rattle.rev_explain.proofs.Departing.{removals_from}
use Rattle.rev_figures.proofs.gone.add_gone.Given as goal

-- the keys of the changes from `start` on are there
abbrev pub invariant-changes : goal.invariant-changes
invariant-changes g l = (after : State) → l.gone.items ≡ l.fn.gone.items ++ reverse (departures_in l.node.0 (plain_step l.step) l.outcome (removals_from l.trace.changes l.start after))

abbrev pub decreases-changes : goal.decreases-changes
decreases-changes g l = l.start
