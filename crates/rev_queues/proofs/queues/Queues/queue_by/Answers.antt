use Rattle.rev_model.specs.declared.Queue.TheVariants.{Hot, Warm, Cold}
use Rattle.rev_queues.specs.QueueState.{id_of}
use Rattle.rev_queues.proofs.MemberLaws.{named_by, named_otherwise}
use Rattle.rev_queues.proofs.Readings.{slot_there, among_hot, among_warm, among_cold, among_temp}
use Rattle.rev_queues.proofs.queues.Queues.queue_by.Goals as goal

pub read-slot-requires : goal.read-slot-requires
read-slot-requires g c =
    let s = c.self.inside in
    slot_there s.links.ends s.links.marks s.links.slots s.tallies c.self.invariant c.args.self.now c.self.view_is c.args.class c.requires.class c.args.chunk c.requires.there

pub returns-then-eq : goal.returns-then-eq
returns-then-eq g c =
    let s = c.self.inside in
    among_hot s.links.ends s.links.marks s.links.slots s.tallies c.self.invariant c.args.self.now c.self.view_is c.args.class c.requires.class c.args.chunk c.requires.there
    c.read-slot.result c.read-slot.ensures.value (named_by c.read-slot.result.standing.queue c.id.result (id_of c.args.class Hot) c.id.ensures c.if-eq.ensures)

pub returns-then-eq-2 : goal.returns-then-eq-2
returns-then-eq-2 g c =
    let s = c.self.inside in
    among_warm s.links.ends s.links.marks s.links.slots s.tallies c.self.invariant c.args.self.now c.self.view_is c.args.class c.requires.class c.args.chunk c.requires.there
    c.read-slot.result c.read-slot.ensures.value (named_otherwise c.read-slot.result.standing.queue c.id.result (id_of c.args.class Hot) c.id.ensures c.if-eq.ensures) (named_by c.read-slot.result.standing.queue c.id-else-eq.result (id_of c.args.class Warm) c.id-else-eq.ensures c.if-eq-2.ensures)

pub returns-then-eq-3 : goal.returns-then-eq-3
returns-then-eq-3 g c =
    let s = c.self.inside in
    among_cold s.links.ends s.links.marks s.links.slots s.tallies c.self.invariant c.args.self.now c.self.view_is c.args.class c.requires.class c.args.chunk c.requires.there
    c.read-slot.result c.read-slot.ensures.value (named_otherwise c.read-slot.result.standing.queue c.id.result (id_of c.args.class Hot) c.id.ensures c.if-eq.ensures) (named_otherwise c.read-slot.result.standing.queue c.id-else-eq.result (id_of c.args.class Warm) c.id-else-eq.ensures c.if-eq-2.ensures) (named_by c.read-slot.result.standing.queue c.id-else-eq-2.result (id_of c.args.class Cold) c.id-else-eq-2.ensures c.if-eq-3.ensures)

pub returns : goal.returns
returns g c =
    let s = c.self.inside in
    among_temp s.links.ends s.links.marks s.links.slots s.tallies c.self.invariant c.args.self.now c.self.view_is c.args.class c.requires.class c.args.chunk c.requires.there
    c.read-slot.result c.read-slot.ensures.value (named_otherwise c.read-slot.result.standing.queue c.id.result (id_of c.args.class Hot) c.id.ensures c.if-eq.ensures) (named_otherwise c.read-slot.result.standing.queue c.id-else-eq.result (id_of c.args.class Warm) c.id-else-eq.ensures c.if-eq-2.ensures) (named_otherwise c.read-slot.result.standing.queue c.id-else-eq-2.result (id_of c.args.class Cold) c.id-else-eq-2.ensures c.if-eq-3.ensures)
