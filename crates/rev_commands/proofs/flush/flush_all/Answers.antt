use Rattle.std.specs.Prelude.{ℤ, None, Some}
use Rattle.std.proofs.Common.{sym, ◌∙◌, ap, subst, w32, to_z, of_z}
use Rattle.std.proofs.lemmas.Int.{to_z-of_z}
use Rattle.rev_model.specs.State.{State}
use Rattle.rev_model.specs.Client.{flush_at, flush_moment}
use Rattle.rev_model.specs.declared.Globals.{Globals}
use Rattle.rev_model.specs.declared.Outcome.TheVariants.{Okay}
use Rattle.rev_edits.proofs.Rest.{Rest, rest_of, sound_of}
use Rattle.rev_commands.specs.Flushing.{flushed}
use Rattle.rev_commands.proofs.Flushing.{flush_to, flushed_at, rest-flushed}
use Rattle.rev_commands.proofs.flush.flush_all.Goals as goal

pub returns-clause-step : goal.returns-clause-step
returns-clause-step g c =
    let s = c.args.store.now in
    ap (λ (t : State). (t, Okay))
    (c.change.ensures.state
    ∙ ap (flush_to s) (c.flushed.ensures ∙ ap (λ (f : Globals). flushed f c.flush_moment-due.result) c.globals-globals.ensures)
    ∙ flushed_at s c.flush_moment-due.result
    ∙ ap (flush_at s) (c.flush_moment-due.ensures ∙ ap (λ (f : Globals). flush_moment f.clock (Some (to_z w32 (of_z w32 c.args.delay)))) c.globals-globals.ensures ∙ ap (λ (z : ℤ). flush_moment s.globals.clock (Some z)) (to_z-of_z w32 c.args.delay c.ranges.delay)))

pub returns-clause-sound : goal.returns-clause-sound
returns-clause-sound g c =
    let s = c.args.store.now in
    sound_of None c.change.new.store c.change.ensures.well
    (subst (Rest None) (sym (c.change.ensures.state ∙ ap (flush_to s) (c.flushed.ensures ∙ ap (λ (f : Globals). flushed f c.flush_moment-due.result) c.globals-globals.ensures)))
    (rest-flushed s c.flush_moment-due.result (rest_of None s c.requires)))
