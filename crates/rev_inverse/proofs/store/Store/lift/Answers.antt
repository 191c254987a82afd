use Rattle.std.proofs.Common.{map, sym, subst, ◌∙◌, ap, rules}
use Rattle.std.specs.List.{slice_index}
use Rattle.rev_model.specs.Chunk.{same_entry}
use Rattle.rev_model.specs.Lists.{has}
use Rattle.rev_model.specs.Move.{Possible, Lifts, moved}
use Rattle.rev_model.specs.Move as model
use Rattle.rev_model.specs.State.{WellFormed}
use Rattle.rev_model.specs.declared.Entry.TheVariants.{Chunk}
use Rattle.rev_queues.specs.Entries.{entries}
use Rattle.rev_queues.proofs.Entries.{entries-at}
use Rattle.rev_inverse.proofs.Paging.{fitted_lifted, lift_fits, some_chunk, state_of, state_lifted}
use Rattle.rev_inverse.proofs.store.Store.lift.Goals as goal

pub lift-queues-requires-clause-clear : goal.lift-queues-requires-clause-clear
lift-queues-requires-clause-clear g c =
    let well = subst WellFormed (sym c.self.view_is) c.requires.well in
    let p = subst (Possible (Lifts c.args.page c.args.form)) (sym c.self.view_is) c.requires.possible in
    let fits = lift_fits _ _ _ _ _ c.self.invariant well _ _ p (some_chunk _ _ _ _ _ _ _ c.owner-class.ensures c.from.ensures c.per_page-some.ensures.count c.per_page-some.ensures.within.0) in
    λ x e n. ap (has same_entry (Chunk x)) (sym (entries-at _ n)) ∙ fits.clear x e n

pub invariant_of-self : goal.invariant_of-self
invariant_of-self g c =
    let well = subst WellFormed (sym c.self.view_is) c.requires.well in
    let p = subst (Possible (Lifts c.args.page c.args.form)) (sym c.self.view_is) c.requires.possible in
    let fits = lift_fits _ _ _ _ _ c.self.invariant well _ _ p (some_chunk _ _ _ _ _ _ _ c.owner-class.ensures c.from.ensures c.per_page-some.ensures.count c.per_page-some.ensures.within.0) in
    fitted_lifted _ _ _ _ _ c.self.invariant _ _ _ c.args.page c.args.form fits.goes fits.in_slots c.lift-pages.ensures.value (λ i. record { queues = c.lift-queues.ensures.queues i; slots = c.lift-queues.ensures.slots i }) c.lift-index.ensures.after

pub returns-clause-state : goal.returns-clause-state
returns-clause-state g c =
    let s = state_of c.self.view_is in
    (λ i. record s { owner = (c.lift-pages.ensures.value i).owner; free = (c.lift-pages.ensures.value i).free; queues = map entries (c.lift-queues.ensures.queues i); content = (c.lift-index.ensures.after i).content; index = (c.lift-index.ensures.after i).keys })
    ∙ state_lifted s c.self.inside.pages.slots c.args.page (slice_index c.self.inside.pages.owner c.args.page) (slice_index c.self.inside.pages.slots c.args.page) c.args.form
    ∙ ap (λ k. model.lifted c.args.page (slice_index c.self.inside.pages.owner c.args.page) k c.args.form s) (c.self.invariant.slots c.args.page)
    ∙ ap (moved (Lifts c.args.page c.args.form)) c.self.view_is

pub returns-clause-reverse : goal.returns-clause-reverse
returns-clause-reverse g c = search rules
