use Rattle.std.proofs.Common.{◌≡◌, drop, None}
use Rattle.rev_replay.specs.Seeking as rule
use Rattle.rev_replay.proofs.seeking.left_last.Given as goal

-- the last one so far, and the last one of those that are left, are the last one of all
abbrev pub invariant-loop-departure : goal.invariant-loop-departure
invariant-loop-departure g l =
    rule.left_last l.before l.key l.last (drop l.departure-index l.gone) ≡ rule.left_last l.before l.key None l.gone
