use Rattle.std.proofs.Common.{◌≡◌, drop}
use Rattle.rev_lives.specs.Follow.{follow_all}
use Rattle.rev_lives.specs.Told.{facts}
use Rattle.rev_life.specs.Lives.{plain_key}
use Rattle.rev_lives.proofs.follow.follow_events.Given as goal

-- what is left to follow leads to where all leads
abbrev pub invariant-loop-event : goal.invariant-loop-event
invariant-loop-event g l =
    (follow_all (facts l.heard l.fn.key.key l.last) (plain_key l.key) (drop l.event-index l.events) ≡ follow_all (facts l.heard l.fn.key.key l.last) (plain_key l.fn.key) l.events)
    × (l.key.key ≡ l.fn.key.key)
