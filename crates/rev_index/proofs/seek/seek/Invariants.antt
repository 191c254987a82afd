use Rattle.std.proofs.Common.{length}
use Rattle.rev_index.specs.Chains.{trail}
use Rattle.rev_index.proofs.Kept.{Seeks}
use Rattle.rev_index.proofs.seek.seek.Given as goal

abbrev pub invariant-walk : goal.invariant-walk
invariant-walk g l = Seeks l.chains.ends.items l.chains.links l.items l.fn.bucket.number l.key l.place

abbrev pub decreases-walk : goal.decreases-walk
decreases-walk g l = length (trail l.chains.ends.items l.chains.links l.place)
