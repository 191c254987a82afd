use Rattle.std.proofs.Common.{sym, ◌∙◌, ap, subst, refl, true, ◌≡◌}
use Rattle.rev_model.specs.Chunk.{same_entry}
use Rattle.rev_model.specs.Lists.{distinct, insert}
use Rattle.rev_model.specs.State.{State, queue_of, queue_place}
use Rattle.rev_model.specs.declared.Entry.TheVariants.{Mark}
use Rattle.rev_queues.proofs.Entries.{entries-put, entries-at}
use Rattle.rev_queues.specs.Entries.{last_of}
use Rattle.rev_inverse.proofs.Fits.{fitted_put}
use Rattle.rev_inverse.proofs.Marking.{after_last, insert_last}
use Rattle.rev_inverse.proofs.store.Store.mark.Goals as goal

abbrev state_of : {s t : State} → s ≡ t → State
state_of {s = s} e = s

pub put_entry-requires-clause-after : goal.put_entry-requires-clause-after
put_entry-requires-clause-after g c = after_last _ _ c.last_entry-last.ensures

pub invariant_of-self : goal.invariant_of-self
invariant_of-self g c = fitted_put _ _ _ _ _ c.self.invariant _ (queue_place c.args.class c.args.queue) Mark c.last_entry-last.result 0 refl c.put_entry.ensures

pub returns : goal.returns
returns g c =
    let apart = subst (λ (s : State). distinct same_entry (queue_of s c.args.class c.args.queue) ≡ true) (sym c.self.view_is) c.requires.apart in
    let l = queue_of (state_of c.self.view_is) c.args.class c.args.queue in
    let e = ap (λ o. insert same_entry Mark o l) (c.last_entry-last.ensures ∙ ap last_of (sym (entries-at _ (queue_place c.args.class c.args.queue)))) ∙ insert_last Mark l apart in
    rw (c.put_entry.ensures, ← c.self.view_is, entries-put, e)
