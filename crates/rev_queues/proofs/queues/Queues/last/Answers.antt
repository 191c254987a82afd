use Rattle.std.proofs.Common.{◌≡◌, Some, IsSome, subst, sym, ◌∙◌}
use Rattle.rev_links.specs.declared.places.RingPlace.TheVariants.{End}
use Rattle.rev_queues.specs.Positions.{link_at}
use Rattle.rev_queues.specs.QueueState.{id_of}
use Rattle.rev_queues.proofs.Readings.{end_there, last_read}
use Rattle.rev_queues.proofs.queues.Queues.last.Goals as goal

pub link-requires : goal.link-requires
link-requires g c =
    let s = c.self.inside in
    subst (λ q. IsSome (link_at s.links.ends s.links.marks s.links.slots (End q))) (sym c.id.ensures)
    (end_there s.links.ends s.links.marks s.links.slots s.tallies c.self.invariant c.args.self.now c.self.view_is (id_of c.args.class c.args.queue) c.requires)

pub returns-clause-value : goal.returns-clause-value
returns-clause-value g c =
    let s = c.self.inside in
    c.entry_at.ensures
    ∙ last_read s.links.ends s.links.marks s.links.slots s.tallies c.self.invariant c.args.self.now c.self.view_is (id_of c.args.class c.args.queue) c.requires
    c.link.result (subst (λ q. link_at s.links.ends s.links.marks s.links.slots (End q) ≡ Some c.link.result) c.id.ensures c.link.ensures.value)
