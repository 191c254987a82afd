use Rattle.std.proofs.Common.{sym, subst, refl, ◌∙◌, ap}
use Rattle.rev_model.specs.Move.{Possible, Puts}
use Rattle.rev_model.specs.State.{State, WellFormed, queue_place}
use Rattle.rev_model.specs.Words.{weight}
use Rattle.rev_model.proofs.Slots.{put_free_slot, put_queue_slot, put_free_gone}
use Rattle.rev_model.specs.declared.Placed.TheVariants.{ToFree, ToQueue}
use Rattle.rev_queues.proofs.Entries.{entries-put}
use Rattle.rev_inverse.proofs.Fits.{fitted_slot, fitted_entry, fitted_put, gone_put}
use Rattle.rev_inverse.proofs.store.Store.put.Goals as goal

pub put_free-requires-clause-slot : goal.put_free-requires-clause-slot
put_free-requires-clause-slot g c =
    let p = subst (λ at. Possible (Puts at) c.args.self.now) c.in-ToFree.is c.requires.possible in
    let q = subst (Possible (Puts (ToFree c.in-ToFree.class c.in-ToFree.chunk c.in-ToFree.after))) (sym c.self.view_is) p in
    let well = subst WellFormed (sym c.self.view_is) c.requires.well in
    fitted_slot _ _ _ _ _ c.self.invariant _ well.owned.pages (put_free_slot _ _ _ _ q)

pub put_free-requires-clause-nowhere : goal.put_free-requires-clause-nowhere
put_free-requires-clause-nowhere g c =
    let p = subst (λ at. Possible (Puts at) c.args.self.now) c.in-ToFree.is c.requires.possible in
    let q = subst (Possible (Puts (ToFree c.in-ToFree.class c.in-ToFree.chunk c.in-ToFree.after))) (sym c.self.view_is) p in
    put_free_gone _ _ _ _ q

pub put_entry-requires-clause-slot : goal.put_entry-requires-clause-slot
put_entry-requires-clause-slot g c =
    let p = subst (λ at. Possible (Puts at) c.args.self.now) c.in-ToQueue.is c.requires.possible in
    let q = subst (Possible (Puts (ToQueue c.in-ToQueue.class c.in-ToQueue.queue c.in-ToQueue.entry c.in-ToQueue.after))) (sym c.self.view_is) p in
    let well = subst WellFormed (sym c.self.view_is) c.requires.well in
    rw c.self.invariant.in_queues (fitted_entry _ _ _ _ _ c.self.invariant _ well.owned.pages (put_queue_slot _ _ _ _ _ q))

pub put_entry-requires-clause-gone : goal.put_entry-requires-clause-gone
put_entry-requires-clause-gone g c =
    let p = subst (λ at. Possible (Puts at) c.args.self.now) c.in-ToQueue.is c.requires.possible in
    let q = subst (Possible (Puts (ToQueue c.in-ToQueue.class c.in-ToQueue.queue c.in-ToQueue.entry c.in-ToQueue.after))) (sym c.self.view_is) p in
    gone_put _ _ refl _ _ _ _ q

pub invariant_of-self-in-ToQueue : goal.invariant_of-self-in-ToQueue
invariant_of-self-in-ToQueue g c =
    let told = c.footprint-footprint.ensures ∙ ap (λ (s : State). weight s.content c.in-ToQueue.entry) (sym c.self.view_is) in
    fitted_put _ _ _ _ _ c.self.invariant _ (queue_place c.in-ToQueue.class c.in-ToQueue.queue) c.in-ToQueue.entry c.in-ToQueue.after _ told c.put_entry.ensures

pub returns-in-ToQueue-clause-state : goal.returns-in-ToQueue-clause-state
returns-in-ToQueue-clause-state g c =
    rw (c.put_entry.ensures, c.in-ToQueue.is, ← c.self.view_is, entries-put)
