use Rattle.std.proofs.Common.{◌≡◌, Some, subst, slice_get}
use Rattle.rev_queues.proofs.Kept.{tally_there}
use Rattle.rev_queues.proofs.Readings.{count_read, mark_read}
use Rattle.rev_queues.proofs.queues.Queues.tally.Goals as goal

pub get-requires : goal.get-requires
get-requires g c =
    let s = c.self.inside in
    tally_there s.links.ends s.links.marks s.links.slots s.tallies c.self.invariant c.args.self.now c.self.view_is c.args.queue c.requires.queue c.from.result c.from.ensures

pub returns-clause-count : goal.returns-clause-count
returns-clause-count g c =
    let s = c.self.inside in
    count_read s.links.ends s.links.marks s.links.slots s.tallies c.self.invariant c.args.self.now c.self.view_is c.args.queue c.requires.queue
    c.get.result (subst (λ n. slice_get s.tallies n ≡ Some c.get.result) c.from.ensures c.get.ensures.value)

pub returns-clause-marked : goal.returns-clause-marked
returns-clause-marked g c =
    let s = c.self.inside in
    mark_read s.links.ends s.links.marks s.links.slots s.tallies c.self.invariant c.args.self.now c.self.view_is c.args.queue c.requires.queue
    c.get.result (subst (λ n. slice_get s.tallies n ≡ Some c.get.result) c.from.ensures c.get.ensures.value)
