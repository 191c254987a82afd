use Rattle.std.proofs.Common.{refl, sym, ◌∙◌, ap}
use Rattle.rev_intake.specs.Events.{is_asked}
use Rattle.rev_import.specs.Sample.{takes_event}
use Rattle.rev_intake.proofs.Taken.{takes_no_event, takes_left_out, takes_other_key}
use Rattle.rev_intake.proofs.intake.Intake.take_line.Goals as goal

pub returns-in-Skipped-clause-takes : goal.returns-in-Skipped-clause-takes
returns-in-Skipped-clause-takes g c =
    let seen = c.self.view_is in
    let line = c.in-Skipped.is in
    rw line (takes_no_event _ _ _ _ _ refl (ap (λ i. i.range) seen) (ap (λ i. i.window) seen) (ap (λ i. i.waiting) seen) (ap (λ i. i.waits) seen)
    (rw (c.add.ensures, c.add-in-Skipped.ensures, ← seen) refl))

pub returns-in-Other-clause-takes : goal.returns-in-Other-clause-takes
returns-in-Other-clause-takes g c =
    let seen = c.self.view_is in
    let line = c.in-Other.is in
    rw line (takes_no_event _ _ _ _ _ refl (ap (λ i. i.range) seen) (ap (λ i. i.window) seen) (ap (λ i. i.waiting) seen) (ap (λ i. i.waits) seen)
    (rw (c.add.ensures, c.add-in-Other.ensures, ← seen) refl))

pub returns-else-has-clause-takes : goal.returns-else-has-clause-takes
returns-else-has-clause-takes g c =
    let seen = c.self.view_is in
    let line = c.in-Log.is in
    rw line (takes_left_out _ _ _ _ _ (ap (λ i. is_asked i.range c.in-Log.line.time.seconds) (sym seen) ∙ sym c.has.ensures ∙ c.if-has.false) (ap (λ i. i.range) seen)
    (ap (λ i. i.window) seen) (ap (λ i. i.waiting) seen) (ap (λ i. i.waits) seen) (rw (c.add.ensures, c.add-else-has.ensures, ← seen) refl))

pub returns-else-takes_event-clause-takes : goal.returns-else-takes_event-clause-takes
returns-else-takes_event-clause-takes g c =
    let seen = c.self.view_is in
    let line = c.in-Log.is in
    rw line (takes_other_key _ _ _ _ _ (ap (λ i. is_asked i.range c.in-Log.line.time.seconds) (sym seen) ∙ sym c.has.ensures ∙ c.if-has.true)
    (ap (λ i. takes_event i.range.sample.one_of c.in-Log.line.event) (sym seen) ∙ sym c.takes_event.ensures ∙ c.if-takes_event.false) (ap (λ i. i.range) seen)
    (ap (λ i. i.window) seen) (ap (λ i. i.waiting) seen) (ap (λ i. i.waits) seen) (rw (c.add.ensures, c.add-else-takes_event.ensures, ← seen) refl))
