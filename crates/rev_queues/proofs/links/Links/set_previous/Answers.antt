use Rattle.std.proofs.Common.{refl, ap, ◌∙◌}
use Rattle.rev_links.specs.declared.places.RingPlace.TheVariants.{At}
use Rattle.rev_queues.proofs.Steps.{previous_written, standing_kept, shape_kept, end_previous, end_shape, mark_previous, mark_shape, end_place, mark_place, chunk_place}
use Rattle.rev_queues.proofs.links.Links.set_previous.Goals as goal

pub returns-in-Chunk-clause-value : goal.returns-in-Chunk-clause-value
returns-in-Chunk-clause-value g c =
    let s = c.args.self.now in
    let u = c.in-At.is ∙ ap At c.in-Chunk.is in
    let w = record c.edit-in-Chunk.result.now { link = record c.edit-in-Chunk.result.now.link { previous = c.args.previous } } in
    previous_written s.ends s.marks s.slots c.in-Chunk.chunk c.edit-in-Chunk.result.now w c.edit-in-Chunk.ensures.value c.args.position u refl

pub returns-in-Chunk-clause-standing : goal.returns-in-Chunk-clause-standing
returns-in-Chunk-clause-standing g c =
    let s = c.args.self.now in
    let w = record c.edit-in-Chunk.result.now { link = record c.edit-in-Chunk.result.now.link { previous = c.args.previous } } in
    standing_kept s.ends s.marks s.slots c.in-Chunk.chunk c.edit-in-Chunk.result.now w c.edit-in-Chunk.ensures.value refl

pub returns-in-Chunk-clause-shape : goal.returns-in-Chunk-clause-shape
returns-in-Chunk-clause-shape g c =
    let s = c.args.self.now in
    shape_kept s.ends s.marks s.slots c.in-Chunk.chunk c.edit-in-Chunk.result.now _ c.edit-in-Chunk.ensures.value

pub returns-in-End-clause-value : goal.returns-in-End-clause-value
returns-in-End-clause-value g c =
    let s = c.args.self.now in
    let w = record c.edit.result.now { previous = c.args.previous } in
    end_previous s.ends s.marks _ s.slots c.in-End.queue _ w c.from.ensures refl c.args.position c.in-End.is c.requires c.edit.result.now c.edit.ensures.value refl

pub returns-in-End-clause-shape : goal.returns-in-End-clause-shape
returns-in-End-clause-shape g c =
    let s = c.args.self.now in
    let w = record c.edit.result.now { previous = c.args.previous } in
    end_shape s.ends s.marks _ s.slots c.in-End.queue _ w c.from.ensures refl c.args.position c.in-End.is c.requires

pub returns-in-Mark-clause-value : goal.returns-in-Mark-clause-value
returns-in-Mark-clause-value g c =
    let s = c.args.self.now in
    let w = record c.edit-in-Mark.result.now { previous = c.args.previous } in
    mark_previous s.ends s.marks _ s.slots c.in-Mark.queue _ w c.from-in-Mark.ensures refl c.args.position (c.in-At.is ∙ ap At c.in-Mark.is) c.requires c.edit-in-Mark.result.now c.edit-in-Mark.ensures.value refl

pub returns-in-Mark-clause-shape : goal.returns-in-Mark-clause-shape
returns-in-Mark-clause-shape g c =
    let s = c.args.self.now in
    let w = record c.edit-in-Mark.result.now { previous = c.args.previous } in
    mark_shape s.ends s.marks _ s.slots c.in-Mark.queue _ w c.from-in-Mark.ensures refl c.args.position (c.in-At.is ∙ ap At c.in-Mark.is) c.requires

pub returns-in-End-clause-standing : goal.returns-in-End-clause-standing
returns-in-End-clause-standing g c = λ x. refl

pub returns-in-Mark-clause-standing : goal.returns-in-Mark-clause-standing
returns-in-Mark-clause-standing g c = λ x. refl

pub edit-requires : goal.edit-requires
edit-requires g c =
    let s = c.args.self.now in
    end_place s.ends s.marks s.slots c.in-End.queue _ c.from.ensures c.args.position c.in-End.is c.requires

pub edit-requires-in-Mark : goal.edit-requires-in-Mark
edit-requires-in-Mark g c =
    let s = c.args.self.now in
    mark_place s.ends s.marks s.slots c.in-Mark.queue _ c.from-in-Mark.ensures c.args.position (c.in-At.is ∙ ap At c.in-Mark.is) c.requires

pub edit-requires-in-Chunk : goal.edit-requires-in-Chunk
edit-requires-in-Chunk g c =
    let s = c.args.self.now in
    chunk_place s.ends s.marks s.slots c.in-Chunk.chunk c.args.position (c.in-At.is ∙ ap At c.in-Chunk.is) c.requires

pub returns-in-End-clause-cost : goal.returns-in-End-clause-cost
returns-in-End-clause-cost g c = c.edit.ensures.cost

pub returns-in-Mark-clause-cost : goal.returns-in-Mark-clause-cost
returns-in-Mark-clause-cost g c = c.edit-in-Mark.ensures.cost

pub returns-in-Chunk-clause-cost : goal.returns-in-Chunk-clause-cost
returns-in-Chunk-clause-cost g c = c.edit-in-Chunk.ensures.cost
