use Rattle.std.proofs.Common.{sym, ◌∙◌, ap, subst, true, ◌≡◌, [], ◌++◌, ◌∷◌}
use Rattle.rev_model.specs.Chunk.{same_entry}
use Rattle.rev_model.specs.Lists.{has, distinct}
use Rattle.rev_model.specs.Move.{front}
use Rattle.rev_model.specs.State.{State, queue_of, queue_place}
use Rattle.rev_model.specs.declared.Entry.TheVariants.{Mark}
use Rattle.rev_queues.proofs.Entries.{entries-taken, entries-at}
use Rattle.rev_inverse.proofs.Fits.{fitted_taken}
use Rattle.rev_inverse.proofs.Marking.{end_there, end_taken}
use Rattle.rev_inverse.proofs.store.Store.unmark.Goals as goal

pub take_entry-before-requires-clause-there : goal.take_entry-before-requires-clause-there
take_entry-before-requires-clause-there g c =
    let end = subst (λ (s : State). front (queue_of s c.args.class c.args.queue) ++ Mark ∷ [] ≡ queue_of s c.args.class c.args.queue) (sym c.self.view_is) c.requires.end in
    ap (has same_entry Mark) (sym (entries-at _ (queue_place c.args.class c.args.queue))) ∙ end_there Mark _ end

pub invariant_of-self : goal.invariant_of-self
invariant_of-self g c = fitted_taken _ _ _ _ _ c.self.invariant _ (queue_place c.args.class c.args.queue) Mark c.take_entry-before.ensures.after

pub returns : goal.returns
returns g c =
    let apart = subst (λ (s : State). distinct same_entry (queue_of s c.args.class c.args.queue) ≡ true) (sym c.self.view_is) c.requires.apart in
    let end = subst (λ (s : State). front (queue_of s c.args.class c.args.queue) ++ Mark ∷ [] ≡ queue_of s c.args.class c.args.queue) (sym c.self.view_is) c.requires.end in
    let e = end_taken Mark _ end apart in
    rw (c.take_entry-before.ensures.after, ← c.self.view_is, entries-taken, e)
