use Rattle.std.proofs.Common.{◌≡◌, inl, inr, sym, ◌∙◌, ap, subst}
use Rattle.rev_steps.specs.Plain.{plain_step}
use Rattle.rev_tree.specs.Steps.{next}
use Rattle.rev_plays.specs.Replies.{state_of}
use Rattle.rev_plays.specs.Start.{IsShort}
use Rattle.rev_plays.specs.declared.quiet.Quiet.TheVariants.{Played}
use Rattle.rev_plays.proofs.Starting.{short_quiet, short_after, played_short, played_state}
use Rattle.rev_plays.proofs.start.play_step.Goals as goal

pub unreachable-requires : goal.unreachable-requires
unreachable-requires g c =
    let r = c.make_room.ensures in
    let p : c.in_ok-play_quietly.field-0 ≡ Played = c.in_ok-play_quietly.ensures.quiet ∙ short_quiet c.make_room.new.session (plain_step c.args.step) r.short r.room in
    elim c.in-TooManyNodes.is [
      | inl a ↦ (let x = sym p ∙ a in cc)
      | inr a ↦ (let x = sym p ∙ a in cc)
    ]

pub returns-clause-state : goal.returns-clause-state
returns-clause-state g c =
    let r = c.make_room.ensures in
    let m = c.make_room.new.session in
    let e = plain_step c.args.step in
    ap state_of (c.in_ok-play_quietly.ensures.session ∙ short_after m e r.short r.room) ∙ played_state m e r.short ∙ ap (λ s. next s e) r.state

pub returns-clause-short : goal.returns-clause-short
returns-clause-short g c =
    let r = c.make_room.ensures in
    let m = c.make_room.new.session in
    let e = plain_step c.args.step in
    subst IsShort (sym (c.in_ok-play_quietly.ensures.session ∙ short_after m e r.short r.room)) (played_short m e r.short r.room)
