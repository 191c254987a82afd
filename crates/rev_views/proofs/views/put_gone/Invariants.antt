use Rattle.std.proofs.Common.{◌≡◌, ◌++◌}
use Rattle.rev_explain.specs.Departures.{departures, last_of}
use Rattle.rev_views.specs.Views.{departures_text}
use Rattle.rev_views.proofs.views.put_gone.Given as goal

-- with the departures that are left, what was written becomes the whole
abbrev pub invariant-loop-departure : goal.invariant-loop-departure
invariant-loop-departure g l = l.out.items ++ departures_text l.log l.departure-iterator.rest.items ≡ l.fn.out.items ++ departures_text l.fn.log (last_of l.fn.limit (departures l.session.root l.session.rows l.session.current))
