use Rattle.std.proofs.Common.{refl, sym, subst}
use Rattle.rev_queues.specs.Positions.{Tells}
use Rattle.rev_queues.proofs.Steps.{written, links_kept, tells, shape_kept}
use Rattle.rev_queues.proofs.links.Links.tell.Goals as goal

pub returns-in-Chunk-clause-links : goal.returns-in-Chunk-clause-links
returns-in-Chunk-clause-links g c =
    let s = c.args.self.now in
    links_kept s.ends s.marks s.slots c.in-Chunk.chunk c.edit.result.now _ c.edit.ensures.value refl

pub returns-in-Chunk-clause-value : goal.returns-in-Chunk-clause-value
returns-in-Chunk-clause-value g c =
    let s = c.args.self.now in
    let w = record c.edit.result.now { standing = c.args.standing } in
    subst (λ m. Tells s.slots (written s.ends s.marks s.slots c.in-Chunk.chunk c.edit.result.now w c.edit.ensures.value) m c.args.standing) (sym c.in-Chunk.is)
    (tells s.ends s.marks s.slots c.in-Chunk.chunk c.edit.result.now w c.edit.ensures.value)

pub returns-in-Chunk-clause-shape : goal.returns-in-Chunk-clause-shape
returns-in-Chunk-clause-shape g c =
    let s = c.args.self.now in
    shape_kept s.ends s.marks s.slots c.in-Chunk.chunk c.edit.result.now _ c.edit.ensures.value
