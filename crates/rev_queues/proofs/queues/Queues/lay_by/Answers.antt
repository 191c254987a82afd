use Rattle.std.proofs.Common.{◌≡◌, sym, subst, set}
use Rattle.rev_queues.specs.QueueState.{IsLinked, state_of}
use Rattle.rev_queues.proofs.Exchanges.{apart_where_empty, exchange_linked, exchange_queues, exchange_slots}
use Rattle.rev_queues.proofs.queues.Queues.lay_by.Goals as goal

pub invariant_of-self : goal.invariant_of-self
invariant_of-self g c =
    let s = c.self.inside in
    subst (λ slots. IsLinked s.links.ends s.links.marks slots s.tallies) (sym c.lay.ensures.value)
    (exchange_linked s.links.ends s.links.marks s.links.slots s.tallies c.self.invariant c.args.self.now c.self.view_is c.args.page c.slots.inside.cells.items c.slots.invariant
    (apart_where_empty s.links.ends s.links.marks s.links.slots s.tallies c.self.invariant c.args.self.now c.self.view_is c.args.page c.requires.empty))

pub returns-clause-queues : goal.returns-clause-queues
returns-clause-queues g c =
    let s = c.self.inside in
    subst (λ slots. (state_of s.links.ends s.links.marks slots).queues ≡ c.args.self.now.queues) (sym c.lay.ensures.value)
    (exchange_queues s.links.ends s.links.marks s.links.slots s.tallies c.self.invariant c.args.self.now c.self.view_is c.args.page c.slots.inside.cells.items c.slots.invariant
    (apart_where_empty s.links.ends s.links.marks s.links.slots s.tallies c.self.invariant c.args.self.now c.self.view_is c.args.page c.requires.empty))

pub returns-clause-slots : goal.returns-clause-slots
returns-clause-slots g c =
    let s = c.self.inside in
    subst (λ slots. (state_of s.links.ends s.links.marks slots).slots ≡ set c.args.self.now.slots c.args.page c.args.slots) (sym c.lay.ensures.value)
    (exchange_slots s.links.ends s.links.marks s.links.slots s.tallies c.self.invariant c.args.self.now c.self.view_is c.args.page c.slots.inside.cells.items c.slots.invariant
    (apart_where_empty s.links.ends s.links.marks s.links.slots s.tallies c.self.invariant c.args.self.now c.self.view_is c.args.page c.requires.empty) c.args.slots c.slots.view_is)
