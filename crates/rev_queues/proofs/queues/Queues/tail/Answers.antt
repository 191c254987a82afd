use Rattle.std.proofs.Common.{◌≡◌, Some, IsSome, subst, sym, ◌∙◌, ap, arith}
use Rattle.rev_links.specs.declared.places.RingPlace.TheVariants.{End, At}
use Rattle.rev_queues.specs.Positions.{link_at}
use Rattle.rev_queues.specs.QueueState.{id_of}
use Rattle.rev_queues.proofs.Readings.{end_there, tail_end, tail_chunk, mark_there, tail_mark}
use Rattle.rev_queues.proofs.queues.Queues.tail.Goals as goal

pub link-requires : goal.link-requires
link-requires g c =
    let s = c.self.inside in
    subst (λ q. IsSome (link_at s.links.ends s.links.marks s.links.slots (End q))) (sym c.id.ensures)
    (end_there s.links.ends s.links.marks s.links.slots s.tallies c.self.invariant c.args.self.now c.self.view_is (id_of c.args.class c.args.queue) c.requires)

pub returns-in-End-clause-value : goal.returns-in-End-clause-value
returns-in-End-clause-value g c =
    let s = c.self.inside in
    tail_end s.links.ends s.links.marks s.links.slots s.tallies c.self.invariant c.args.self.now c.self.view_is (id_of c.args.class c.args.queue) c.requires
    c.link.result (subst (λ q. link_at s.links.ends s.links.marks s.links.slots (End q) ≡ Some c.link.result) c.id.ensures c.link.ensures.value) _ c.in-End.is

pub returns-in-Chunk-clause-value : goal.returns-in-Chunk-clause-value
returns-in-Chunk-clause-value g c =
    let s = c.self.inside in
    tail_chunk s.links.ends s.links.marks s.links.slots s.tallies c.self.invariant c.args.self.now c.self.view_is (id_of c.args.class c.args.queue) c.requires
    c.link.result (subst (λ q. link_at s.links.ends s.links.marks s.links.slots (End q) ≡ Some c.link.result) c.id.ensures c.link.ensures.value) c.in-Chunk.chunk (c.in-At.is ∙ ap At c.in-Chunk.is)

pub link-requires-in-Mark : goal.link-requires-in-Mark
link-requires-in-Mark g c =
    let s = c.self.inside in
    subst (λ m. IsSome (link_at s.links.ends s.links.marks s.links.slots (At m))) (sym c.in-Mark.is)
    (mark_there s.links.ends s.links.marks s.links.slots s.tallies c.self.invariant c.args.self.now c.self.view_is (id_of c.args.class c.args.queue) c.requires
    c.link.result (subst (λ q. link_at s.links.ends s.links.marks s.links.slots (End q) ≡ Some c.link.result) c.id.ensures c.link.ensures.value) c.in-Mark.field-0 (c.in-At.is ∙ ap At c.in-Mark.is))

pub returns-in-Mark-clause-value : goal.returns-in-Mark-clause-value
returns-in-Mark-clause-value g c =
    let s = c.self.inside in
    c.chunk_at.ensures
    ∙ tail_mark s.links.ends s.links.marks s.links.slots s.tallies c.self.invariant c.args.self.now c.self.view_is (id_of c.args.class c.args.queue) c.requires
    c.link.result (subst (λ q. link_at s.links.ends s.links.marks s.links.slots (End q) ≡ Some c.link.result) c.id.ensures c.link.ensures.value) c.in-Mark.field-0 (c.in-At.is ∙ ap At c.in-Mark.is)
    c.link-in-Mark.result (subst (λ m. link_at s.links.ends s.links.marks s.links.slots (At m) ≡ Some c.link-in-Mark.result) c.in-Mark.is c.link-in-Mark.ensures.value)

pub returns-in-End-clause-cost : goal.returns-in-End-clause-cost
returns-in-End-clause-cost g c = omega (arith, c.link.ensures.cost)
