use Rattle.std.proofs.Common.{◌≡◌}
use Rattle.rev_figures.proofs.slot_sums.Slots.read_ends.Given as goal

abbrev pub invariant-loop : goal.invariant-loop
invariant-loop g l = l.session ≡ record l.fn.session { current = l.session.current }
