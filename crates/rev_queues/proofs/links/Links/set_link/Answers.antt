use Rattle.std.proofs.Common.{arith, refl, ap, ◌∙◌}
use Rattle.rev_links.specs.declared.places.RingPlace.TheVariants.{At}
use Rattle.rev_queues.proofs.Steps.{link_written, others_kept, standing_kept, shape_kept, end_link, end_others, end_shape, mark_link, mark_others, mark_shape, end_place, mark_place, chunk_place}
use Rattle.rev_queues.proofs.links.Links.set_link.Goals as goal

pub returns-in-Chunk-clause-value : goal.returns-in-Chunk-clause-value
returns-in-Chunk-clause-value g c =
    let s = c.args.self.now in
    let u = c.in-At.is ∙ ap At c.in-Chunk.is in
    link_written s.ends s.marks s.slots c.in-Chunk.chunk c.edit.result.now (record c.edit.result.now { link = c.args.link }) c.edit.ensures.value c.args.position u

pub returns-in-Chunk-clause-others : goal.returns-in-Chunk-clause-others
returns-in-Chunk-clause-others g c =
    let s = c.args.self.now in
    let u = c.in-At.is ∙ ap At c.in-Chunk.is in
    others_kept s.ends s.marks s.slots c.in-Chunk.chunk c.edit.result.now (record c.edit.result.now { link = c.args.link }) c.edit.ensures.value c.args.position u

pub returns-in-Chunk-clause-standing : goal.returns-in-Chunk-clause-standing
returns-in-Chunk-clause-standing g c =
    let s = c.args.self.now in
    standing_kept s.ends s.marks s.slots c.in-Chunk.chunk c.edit.result.now (record c.edit.result.now { link = c.args.link }) c.edit.ensures.value refl

pub returns-in-Chunk-clause-shape : goal.returns-in-Chunk-clause-shape
returns-in-Chunk-clause-shape g c =
    let s = c.args.self.now in
    shape_kept s.ends s.marks s.slots c.in-Chunk.chunk c.edit.result.now _ c.edit.ensures.value

pub returns-in-End-clause-value : goal.returns-in-End-clause-value
returns-in-End-clause-value g c =
    let s = c.args.self.now in
    end_link s.ends s.marks _ s.slots c.in-End.queue _ c.args.link c.from.ensures c.set.ensures.value c.args.position c.in-End.is c.requires

pub returns-in-End-clause-others : goal.returns-in-End-clause-others
returns-in-End-clause-others g c =
    let s = c.args.self.now in
    end_others s.ends s.marks _ s.slots c.in-End.queue _ c.args.link c.from.ensures c.set.ensures.value c.args.position c.in-End.is c.requires

pub returns-in-End-clause-standing : goal.returns-in-End-clause-standing
returns-in-End-clause-standing g c = λ x. refl

pub returns-in-End-clause-shape : goal.returns-in-End-clause-shape
returns-in-End-clause-shape g c =
    let s = c.args.self.now in
    end_shape s.ends s.marks _ s.slots c.in-End.queue _ c.args.link c.from.ensures c.set.ensures.value c.args.position c.in-End.is c.requires

pub returns-in-Mark-clause-value : goal.returns-in-Mark-clause-value
returns-in-Mark-clause-value g c =
    let s = c.args.self.now in
    mark_link s.ends s.marks _ s.slots c.in-Mark.queue _ c.args.link c.from-in-Mark.ensures c.set-in-Mark.ensures.value c.args.position (c.in-At.is ∙ ap At c.in-Mark.is) c.requires

pub returns-in-Mark-clause-others : goal.returns-in-Mark-clause-others
returns-in-Mark-clause-others g c =
    let s = c.args.self.now in
    mark_others s.ends s.marks _ s.slots c.in-Mark.queue _ c.args.link c.from-in-Mark.ensures c.set-in-Mark.ensures.value c.args.position (c.in-At.is ∙ ap At c.in-Mark.is) c.requires

pub returns-in-Mark-clause-standing : goal.returns-in-Mark-clause-standing
returns-in-Mark-clause-standing g c = λ x. refl

pub returns-in-Mark-clause-shape : goal.returns-in-Mark-clause-shape
returns-in-Mark-clause-shape g c =
    let s = c.args.self.now in
    mark_shape s.ends s.marks _ s.slots c.in-Mark.queue _ c.args.link c.from-in-Mark.ensures c.set-in-Mark.ensures.value c.args.position (c.in-At.is ∙ ap At c.in-Mark.is) c.requires

pub set-requires : goal.set-requires
set-requires g c =
    let s = c.args.self.now in
    end_place s.ends s.marks s.slots c.in-End.queue _ c.from.ensures c.args.position c.in-End.is c.requires

pub set-requires-in-Mark : goal.set-requires-in-Mark
set-requires-in-Mark g c =
    let s = c.args.self.now in
    mark_place s.ends s.marks s.slots c.in-Mark.queue _ c.from-in-Mark.ensures c.args.position (c.in-At.is ∙ ap At c.in-Mark.is) c.requires

pub edit-requires : goal.edit-requires
edit-requires g c =
    let s = c.args.self.now in
    chunk_place s.ends s.marks s.slots c.in-Chunk.chunk c.args.position (c.in-At.is ∙ ap At c.in-Chunk.is) c.requires

pub returns-in-End-clause-cost : goal.returns-in-End-clause-cost
returns-in-End-clause-cost g c = let e = c.set.ensures.cost in omega (arith, e)

pub returns-in-Mark-clause-cost : goal.returns-in-Mark-clause-cost
returns-in-Mark-clause-cost g c = let e = c.set-in-Mark.ensures.cost in omega (arith, e)

pub returns-in-Chunk-clause-cost : goal.returns-in-Chunk-clause-cost
returns-in-Chunk-clause-cost g c = let e = c.edit.ensures.cost in omega (arith, e)
