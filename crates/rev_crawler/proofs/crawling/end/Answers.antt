use Rattle.std.specs.Prelude.{None, length}
use Rattle.rev_model.proofs.Undo.{leads_none}
use Rattle.rev_edits.proofs.Rest.{sound_of, rest_of}
use Rattle.rev_crawler.proofs.Passing.{take_mark, rest-left}
use Rattle.std.proofs.Common.{ap, arith}
use Rattle.rev_model.specs.State.{State}
use Rattle.rev_model.specs.declared.Outcome.TheVariants.{Ended}
use Rattle.rev_inverse.specs.Record.{PlainRecord}
use Rattle.rev_edits.proofs.Telling.{tells_all}
use Rattle.rev_crawler.proofs.crawling.end.Goals as goal

pub change-requires-clause-possible : goal.change-requires-clause-possible
change-requires-clause-possible g c = take_mark c.args.store.now c.requires.sound.well c.args.class c.requires.class c.args.queue c.requires.mark

pub returns-clause-sound : goal.returns-clause-sound
returns-clause-sound g c =
    sound_of None c.change.new.store c.change.ensures.well
    (rw c.change.ensures.state (rest-left c.args.store.now c.requires.sound.well c.args.class c.requires.class c.args.queue c.requires.mark None (rest_of None c.args.store.now c.requires.sound)))

pub returns-clause-leads : goal.returns-clause-leads
returns-clause-leads g c = c.change.ensures.leads c.args.store.now (rw c.in_ok-undo.ensures (leads_none c.args.store.now))

pub returns-clause-step : goal.returns-clause-step
returns-clause-step g c = ap (λ (t : State). (t, Ended)) c.change.ensures.state

pub returns-clause-few : goal.returns-clause-few
returns-clause-few g c = omega (arith, c.change.ensures.made, ap (λ (r : PlainRecord). length r.moves) c.in_ok-undo.ensures)

pub returns-clause-told : goal.returns-clause-told
returns-clause-told g c = tells_all _ _ _ _ _ (ap (λ (r : PlainRecord). r.moves) c.in_ok-undo.ensures) (ap (λ (r : PlainRecord). r.notes) c.in_ok-undo.ensures) c.change.ensures.told
