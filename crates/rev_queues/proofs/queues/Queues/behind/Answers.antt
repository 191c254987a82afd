use Rattle.std.proofs.Common.{◌≡◌, Some, IsSome, subst, sym, ◌∙◌, ap}
use Rattle.rev_links.specs.declared.places.RingPlace.TheVariants.{At}
use Rattle.rev_queues.specs.Positions.{link_at}
use Rattle.rev_queues.specs.QueueState.{id_of, member_of_entry}
use Rattle.rev_queues.proofs.Readings.{entry_there, behind_read}
use Rattle.rev_queues.proofs.queues.Queues.behind.Goals as goal

pub link-requires : goal.link-requires
link-requires g c =
    let s = c.self.inside in
    subst (λ m. IsSome (link_at s.links.ends s.links.marks s.links.slots (At m))) (sym (c.member_in-member.ensures ∙ ap (λ q. member_of_entry q c.args.entry) c.id.ensures))
    (entry_there s.links.ends s.links.marks s.links.slots s.tallies c.self.invariant c.args.self.now c.self.view_is (id_of c.args.class c.args.queue) c.requires.place c.args.entry c.requires.there)

pub returns-clause-value : goal.returns-clause-value
returns-clause-value g c =
    let s = c.self.inside in
    c.entry_at.ensures
    ∙ behind_read s.links.ends s.links.marks s.links.slots s.tallies c.self.invariant c.args.self.now c.self.view_is (id_of c.args.class c.args.queue) c.requires.place c.args.entry c.requires.there
    c.link.result (subst (λ m. link_at s.links.ends s.links.marks s.links.slots (At m) ≡ Some c.link.result) (c.member_in-member.ensures ∙ ap (λ q. member_of_entry q c.args.entry) c.id.ensures) c.link.ensures.value)
