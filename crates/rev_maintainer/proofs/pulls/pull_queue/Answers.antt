use Rattle.std.specs.Prelude.{None}
use Rattle.std.proofs.Common.{sym, ◌∙◌, subst}
use Rattle.rev_model.specs.declared.Outcome.{Outcome}
use Rattle.rev_model.specs.State.{State}
use Rattle.rev_model.proofs.Places.{tail_stands}
use Rattle.rev_edits.proofs.Rest.{sound_of, Rest}
use Rattle.rev_maintainer.proofs.Pulling.{rest_item}
use Rattle.rev_maintainer.proofs.pulls.pull_queue.Goals as goal

pub pull_item-requires-clause-stands : goal.pull_item-requires-clause-stands
pull_item-requires-clause-stands g c = tail_stands c.args.store.now None c.requires.sound c.args.class c.requires.class c.args.queue c.in-Some.chunk (sym c.tail.ensures ∙ c.in-Some.is)

pub returns-in-Some-clause-sound : goal.returns-in-Some-clause-sound
returns-in-Some-clause-sound g c =
    let at = tail_stands c.args.store.now None c.requires.sound c.args.class c.requires.class c.args.queue c.in-Some.chunk (sym c.tail.ensures ∙ c.in-Some.is) in
    sound_of None c.pull_item.new.store c.pull_item.ensures.well
    (subst (λ (p : State × Outcome). Rest None p.0) (sym c.pull_item.ensures.done) (rest_item None c.args.store.now c.requires.sound c.args.class c.requires.class c.args.queue c.args.mode c.in-Some.chunk at.0 at.1))
