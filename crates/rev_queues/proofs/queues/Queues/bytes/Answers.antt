use Rattle.std.proofs.Common.{◌≡◌, Some, ap, subst, ◌∙◌, slice_get, arith}
use Rattle.rev_queues.specs.declared.members.QueueId.{QueueId}
use Rattle.rev_queues.specs.QueueState.{id_of}
use Rattle.rev_queues.proofs.Kept.{tally_there}
use Rattle.rev_queues.proofs.Readings.{bytes_read}
use Rattle.rev_queues.proofs.queues.Queues.bytes.Goals as goal

pub get-requires : goal.get-requires
get-requires g c =
    let s = c.self.inside in
    tally_there s.links.ends s.links.marks s.links.slots s.tallies c.self.invariant c.args.self.now c.self.view_is (id_of c.args.class c.args.queue) c.requires
    c.from-place.result (c.from-place.ensures ∙ ap (λ (q : QueueId). q.number) c.id.ensures)

pub returns-clause-value : goal.returns-clause-value
returns-clause-value g c =
    let s = c.self.inside in
    bytes_read s.links.ends s.links.marks s.links.slots s.tallies c.self.invariant c.args.self.now c.self.view_is (id_of c.args.class c.args.queue) c.requires
    c.get.result (subst (λ n. slice_get s.tallies n ≡ Some c.get.result) (c.from-place.ensures ∙ ap (λ (q : QueueId). q.number) c.id.ensures) c.get.ensures.value)

pub returns-clause-cost : goal.returns-clause-cost
returns-clause-cost g c = let e = c.get.ensures.cost in omega (arith, e)
