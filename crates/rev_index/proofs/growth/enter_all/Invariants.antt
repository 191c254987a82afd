use Rattle.std.proofs.Common.{◌+◌, length}
use Rattle.rev_index.specs.Made.{at}
use Rattle.rev_index.specs.Index.{index_of, bound_all, members}
use Rattle.rev_index.proofs.Widening.{Moves, left}
use Rattle.rev_index.proofs.growth.enter_all.Given as goal

abbrev pub invariant-chunks : goal.invariant-chunks
invariant-chunks g l =
    let v = index_of l.fn.chains.ends.items l.fn.chains.links l.fn.items in
    Moves l.ends l.fn.chains.links l.chains.ends.items l.chains.links l.items l.place l.number (record v { keys = bound_all (at l.fn.items) (members l.ends l.fn.chains.links) v.keys })

abbrev pub decreases-chunks : goal.decreases-chunks
decreases-chunks g l = length (left l.ends l.fn.chains.links l.place l.number) + l.number
