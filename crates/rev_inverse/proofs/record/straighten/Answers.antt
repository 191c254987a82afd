use Rattle.std.proofs.Common.{ap, map, ◌∙◌}
use Rattle.rev_inverse.proofs.Lists.{map-reverse}
use Rattle.rev_inverse.specs.Record.{plain_change}
use Rattle.rev_inverse.proofs.record.straighten.Goals as goal

pub returns-then-is_turned-clause-changes : goal.returns-then-is_turned-clause-changes
returns-then-is_turned-clause-changes g c = rw c.if-is_turned.true (ap (map plain_change) c.reverse.ensures.items ∙ map-reverse plain_change c.args.moves.now.items)
