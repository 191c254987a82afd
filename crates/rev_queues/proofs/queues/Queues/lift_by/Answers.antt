use Rattle.std.proofs.Common.{◌≡◌, List, [], sym, subst, refl, set}
use Rattle.rev_queues.specs.declared.members.QueueSlot.{QueueSlot}
use Rattle.rev_queues.specs.QueueState.{IsLinked, AreSlots, state_of}
use Rattle.rev_queues.proofs.Exchanges.{no_cells, page_cells, apart_where_clear, exchange_linked, exchange_queues, exchange_slots}
use Rattle.rev_queues.proofs.queues.Queues.lift_by.Goals as goal

pub invariant_of-result : goal.invariant_of-result
invariant_of-result g c =
    let s = c.self.inside in
    subst AreSlots (sym c.lift-cells.ensures.before) (page_cells s.links.ends s.links.marks s.links.slots s.tallies c.self.invariant c.args.self.now c.self.view_is c.args.page)

pub invariant_of-self : goal.invariant_of-self
invariant_of-self g c =
    let s = c.self.inside in
    let none : List QueueSlot = [] in
    subst (λ slots. IsLinked s.links.ends s.links.marks slots s.tallies) (sym c.lift-cells.ensures.after)
    (exchange_linked s.links.ends s.links.marks s.links.slots s.tallies c.self.invariant c.args.self.now c.self.view_is c.args.page none no_cells
    (apart_where_clear s.links.ends s.links.marks s.links.slots s.tallies c.self.invariant c.args.self.now c.self.view_is c.args.page c.requires.clear))

pub returns-clause-queues : goal.returns-clause-queues
returns-clause-queues g c =
    let s = c.self.inside in
    let none : List QueueSlot = [] in
    subst (λ slots. (state_of s.links.ends s.links.marks slots).queues ≡ c.args.self.now.queues) (sym c.lift-cells.ensures.after)
    (exchange_queues s.links.ends s.links.marks s.links.slots s.tallies c.self.invariant c.args.self.now c.self.view_is c.args.page none no_cells
    (apart_where_clear s.links.ends s.links.marks s.links.slots s.tallies c.self.invariant c.args.self.now c.self.view_is c.args.page c.requires.clear))

pub returns-clause-slots : goal.returns-clause-slots
returns-clause-slots g c =
    let s = c.self.inside in
    let none : List QueueSlot = [] in
    subst (λ slots. (state_of s.links.ends s.links.marks slots).slots ≡ set c.args.self.now.slots c.args.page 0) (sym c.lift-cells.ensures.after)
    (exchange_slots s.links.ends s.links.marks s.links.slots s.tallies c.self.invariant c.args.self.now c.self.view_is c.args.page none no_cells
    (apart_where_clear s.links.ends s.links.marks s.links.slots s.tallies c.self.invariant c.args.self.now c.self.view_is c.args.page c.requires.clear) 0 refl)
