use Rattle.std.specs.Prelude.{None, length}
use Rattle.std.proofs.Common.{sym, ◌∙◌, subst, ap, arith}
use Rattle.rev_model.proofs.Undo.{leads_none}
use Rattle.rev_edits.proofs.Rest.{Rest, sound_of, rest_of}
use Rattle.rev_crawler.proofs.Marking.{as_free, free_marks, start_okay, rest-marks}
use Rattle.rev_inverse.specs.Record.{PlainRecord}
use Rattle.rev_edits.proofs.Telling.{tells_all}
use Rattle.rev_crawler.proofs.Passing.{answers_same, case_one, case_two}
use Rattle.rev_crawler.proofs.starting.start.Goals as goal

pub change-requires-clause-possible : goal.change-requires-clause-possible
change-requires-clause-possible g c =
    let known = sym c.names_other.ensures ∙ c.if-names_other.false in
    let free = as_free _ _ _ c.is_busy.ensures c.if-is_busy.false in
    free_marks c.args.store.now c.requires c.args.set known free

pub returns-clause-sound : goal.returns-clause-sound
returns-clause-sound g c =
    sound_of None c.change.new.store c.change.ensures.well
    (subst (Rest None) (sym c.change.ensures.state) (rest-marks None c.args.store.now c.args.set (rest_of None c.args.store.now c.requires)))

pub returns-clause-leads : goal.returns-clause-leads
returns-clause-leads g c = c.change.ensures.leads c.args.store.now (rw c.in_ok-undo.ensures (leads_none c.args.store.now))

pub is_busy-requires-clause-classes : goal.is_busy-requires-clause-classes
is_busy-requires-clause-classes g c = sym c.names_other.ensures ∙ c.if-names_other.false

pub returns-then-names_other-clause-step : goal.returns-then-names_other-clause-step
returns-then-names_other-clause-step g c =
    answers_same c.unchanged.result c.args.store.now _ _ (case_one _ _ _ (sym c.names_other.ensures ∙ c.if-names_other.true)) c.unchanged.ensures.outcome

pub returns-then-is_busy-clause-step : goal.returns-then-is_busy-clause-step
returns-then-is_busy-clause-step g c =
    answers_same c.unchanged-then-is_busy.result c.args.store.now _ _ (case_two _ _ _ _ _ (sym c.names_other.ensures ∙ c.if-names_other.false) (sym c.is_busy.ensures ∙ c.if-is_busy.true)) c.unchanged-then-is_busy.ensures.outcome

pub returns-clause-step : goal.returns-clause-step
returns-clause-step g c =
    let free = as_free _ _ _ c.is_busy.ensures c.if-is_busy.false in
    start_okay c.args.store.now c.args.set (sym c.names_other.ensures ∙ c.if-names_other.false) free c.change.new.store c.change.ensures.state

pub returns-clause-few : goal.returns-clause-few
returns-clause-few g c = omega (arith, c.change.ensures.made, ap (λ (r : PlainRecord). length r.moves) c.in_ok-undo.ensures)

pub returns-clause-told : goal.returns-clause-told
returns-clause-told g c = tells_all _ _ _ _ _ (ap (λ (r : PlainRecord). r.moves) c.in_ok-undo.ensures) (ap (λ (r : PlainRecord). r.notes) c.in_ok-undo.ensures) c.change.ensures.told
