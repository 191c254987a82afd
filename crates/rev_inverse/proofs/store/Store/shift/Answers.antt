use Rattle.std.proofs.Common.{sym, subst, refl, ◌∙◌, ap}
use Rattle.std.specs.List.{slice_index}
use Rattle.rev_model.specs.Chunk.{HasSlot}
use Rattle.rev_model.specs.Move.{Possible, Shifts, moved}
use Rattle.rev_model.specs.State.{State, WellFormed, queue_place}
use Rattle.rev_model.specs.Words.{weight}
use Rattle.rev_model.proofs.Slots.{chunk_has_slot}
use Rattle.rev_model.specs.declared.Entry.TheVariants.{Chunk}
use Rattle.rev_queues.specs.QueueState.{QueuesState}
use Rattle.rev_inverse.proofs.Fits.{fitted_slot}
use Rattle.rev_inverse.proofs.Paging.{state_of}
use Rattle.rev_inverse.proofs.Shifting.{shift_fits_at, entries_there, to_gone, from_gone, before_stays, queues_shifted, fitted_shifted}
use Rattle.rev_inverse.proofs.store.Store.shift.Goals as goal

pub take_entry-before-requires-clause-there : goal.take_entry-before-requires-clause-there
take_entry-before-requires-clause-there g c =
    let well = subst WellFormed (sym c.self.view_is) c.requires.well in
    let p = subst (Possible (Shifts c.args.from c.args.to)) (sym c.self.view_is) c.requires.possible in
    let class = c.owner-class.ensures ∙ ap (slice_index c.self.inside.pages.owner) c.from.ensures in
    let fits = shift_fits_at _ well c.args.from c.args.to p c.owner-class.result c.queue_with-queue.result class c.queue_with-queue.ensures in
    entries_there _ _ _ _ _ fits _ refl

pub carry-requires-clause-to : goal.carry-requires-clause-to
carry-requires-clause-to g c =
    let well = subst WellFormed (sym c.self.view_is) c.requires.well in
    let p = subst (Possible (Shifts c.args.from c.args.to)) (sym c.self.view_is) c.requires.possible in
    let class = c.owner-class.ensures ∙ ap (slice_index c.self.inside.pages.owner) c.from.ensures in
    let fits = shift_fits_at _ well c.args.from c.args.to p c.owner-class.result c.queue_with-queue.result class c.queue_with-queue.ensures in
    rw c.self.invariant.in_index (fitted_slot _ _ _ _ _ c.self.invariant c.args.to well.owned.pages (chunk_has_slot (state_of c.self.view_is) _ c.args.to fits.to))

pub put_entry-requires-clause-slot : goal.put_entry-requires-clause-slot
put_entry-requires-clause-slot g c =
    let well = subst WellFormed (sym c.self.view_is) c.requires.well in
    let p = subst (Possible (Shifts c.args.from c.args.to)) (sym c.self.view_is) c.requires.possible in
    let class = c.owner-class.ensures ∙ ap (slice_index c.self.inside.pages.owner) c.from.ensures in
    let fits = shift_fits_at _ well c.args.from c.args.to p c.owner-class.result c.queue_with-queue.result class c.queue_with-queue.ensures in
    subst (λ l. HasSlot l c.args.to) (sym (ap (λ (q : QueuesState). q.slots) c.take_entry-before.ensures.after ∙ c.self.invariant.in_queues)) (fitted_slot _ _ _ _ _ c.self.invariant c.args.to well.owned.pages (chunk_has_slot (state_of c.self.view_is) _ c.args.to fits.to))

pub put_entry-requires-clause-gone : goal.put_entry-requires-clause-gone
put_entry-requires-clause-gone g c =
    let well = subst WellFormed (sym c.self.view_is) c.requires.well in
    let p = subst (Possible (Shifts c.args.from c.args.to)) (sym c.self.view_is) c.requires.possible in
    let class = c.owner-class.ensures ∙ ap (slice_index c.self.inside.pages.owner) c.from.ensures in
    let fits = shift_fits_at _ well c.args.from c.args.to p c.owner-class.result c.queue_with-queue.result class c.queue_with-queue.ensures in
    to_gone _ _ _ _ _ fits _ _ refl (ap (λ (q : QueuesState). q.queues) c.take_entry-before.ensures.after)

pub put_entry-requires-clause-after : goal.put_entry-requires-clause-after
put_entry-requires-clause-after g c =
    let well = subst WellFormed (sym c.self.view_is) c.requires.well in
    let p = subst (Possible (Shifts c.args.from c.args.to)) (sym c.self.view_is) c.requires.possible in
    let class = c.owner-class.ensures ∙ ap (slice_index c.self.inside.pages.owner) c.from.ensures in
    let fits = shift_fits_at _ well c.args.from c.args.to p c.owner-class.result c.queue_with-queue.result class c.queue_with-queue.ensures in
    before_stays _ _ _ _ _ fits _ _ refl (ap (λ (q : QueuesState). q.queues) c.take_entry-before.ensures.after) c.take_entry-before.result c.take_entry-before.ensures.before

pub invariant_of-self : goal.invariant_of-self
invariant_of-self g c =
    let well = subst WellFormed (sym c.self.view_is) c.requires.well in
    let p = subst (Possible (Shifts c.args.from c.args.to)) (sym c.self.view_is) c.requires.possible in
    let class = c.owner-class.ensures ∙ ap (slice_index c.self.inside.pages.owner) c.from.ensures in
    let fits = shift_fits_at _ well c.args.from c.args.to p c.owner-class.result c.queue_with-queue.result class c.queue_with-queue.ensures in
    let told = c.footprint-footprint.ensures ∙ ap (λ (s : State). weight s.content (Chunk c.args.from)) (sym c.self.view_is) in
    fitted_shifted _ _ _ _ _ _ _ _ c.args.from c.args.to (queue_place c.owner-class.result c.queue_with-queue.result) c.footprint-footprint.result c.take_entry-before.result
    c.self.invariant c.take_entry-before.ensures.after c.carry.ensures c.put_entry.ensures told
    (from_gone _ _ _ _ _ fits _ _ refl (ap (λ (q : QueuesState). q.queues) c.take_entry-before.ensures.after))
    (to_gone _ _ _ _ _ fits _ _ refl (ap (λ (q : QueuesState). q.queues) c.take_entry-before.ensures.after))

pub returns : goal.returns
returns g c =
    let well = subst WellFormed (sym c.self.view_is) c.requires.well in
    let p = subst (Possible (Shifts c.args.from c.args.to)) (sym c.self.view_is) c.requires.possible in
    let class = c.owner-class.ensures ∙ ap (slice_index c.self.inside.pages.owner) c.from.ensures in
    let fits = shift_fits_at _ well c.args.from c.args.to p c.owner-class.result c.queue_with-queue.result class c.queue_with-queue.ensures in
    let s = state_of c.self.view_is in
    let queues = queues_shifted _ _ _ _ _ fits _ _ refl (ap (λ (q : QueuesState). q.queues) c.take_entry-before.ensures.after) _ c.take_entry-before.result c.footprint-footprint.result c.take_entry-before.ensures.before (ap (λ (q : QueuesState). q.queues) c.put_entry.ensures) in
    record { state = (λ i. record s { queues = queues i; content = (c.carry.ensures i).content; index = (c.carry.ensures i).keys }) ∙ ap (moved (Shifts c.args.from c.args.to)) c.self.view_is }
