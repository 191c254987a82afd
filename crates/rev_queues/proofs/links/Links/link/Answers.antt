use Rattle.std.proofs.Common.{◌≡◌, sym, subst, Some, slice_get}
use Rattle.rev_queues.specs.Positions.{link_at}
use Rattle.rev_queues.proofs.Steps.{end_place}
use Rattle.rev_queues.proofs.links.Links.link.Goals as goal

pub get-requires : goal.get-requires
get-requires g c =
    let s = c.args.self.now in
    end_place s.ends s.marks s.slots c.in-End.queue _ c.from.ensures c.args.position c.in-End.is c.requires

pub returns-in-End-clause-value : goal.returns-in-End-clause-value
returns-in-End-clause-value g c =
    let s = c.args.self.now in
    subst (λ q. link_at s.ends s.marks s.slots q ≡ Some c.get.result) (sym c.in-End.is) (subst (λ k. slice_get s.ends k ≡ Some c.get.result) c.from.ensures c.get.ensures.value)

pub returns-in-End-clause-cost : goal.returns-in-End-clause-cost
returns-in-End-clause-cost g c = c.get.ensures.cost

pub returns-in-At-Mark-clause-cost : goal.returns-in-At-Mark-clause-cost
returns-in-At-Mark-clause-cost g c = c.get-in-At-Mark.ensures.cost

pub returns-in-At-Chunk-clause-cost : goal.returns-in-At-Chunk-clause-cost
returns-in-At-Chunk-clause-cost g c = c.read.ensures.cost
