use Rattle.std.proofs.Common.{ap, arith}
use Rattle.std.specs.Prelude.{None, length, refl}
use Rattle.rev_model.proofs.Undo.{leads_none}
use Rattle.rev_edits.proofs.Rest.{sound_of, rest_of, rest-dropped}
use Rattle.rev_inverse.specs.Record.{PlainRecord}
use Rattle.rev_edits.proofs.Telling.{tells_all}
use Rattle.rev_crawler.proofs.crawling.reclaim.Goals as goal

-- what a sound state has beside being well formed says nothing of counters
pub returns-clause-sound : goal.returns-clause-sound
returns-clause-sound g c =
    let i = c.requires.stands.0 in
    let at = c.requires.stands.1 in
    let rest = rest-dropped c.args.store.now c.args.class c.args.queue c.args.chunk i None at (rest_of None c.args.store.now c.requires.sound) in
    sound_of None c.discard.new.store c.discard.ensures.well
    (rw (c.discard.ensures.state i at.item) (record { placed = rest.placed; filed = rest.filed; kept = rest.kept }))

pub returns-clause-leads : goal.returns-clause-leads
returns-clause-leads g c = c.discard.ensures.leads c.args.store.now (rw c.in_ok-undo.ensures (leads_none c.args.store.now))

pub returns-clause-told : goal.returns-clause-told
returns-clause-told g c = tells_all _ _ _ _ _ (ap (λ (r : PlainRecord). r.moves) c.in_ok-undo.ensures) (ap (λ (r : PlainRecord). r.notes) c.in_ok-undo.ensures) c.discard.ensures.told

pub returns-clause-step : goal.returns-clause-step
returns-clause-step g c = λ i e. (c.discard.ensures.state i e, refl)

pub returns-clause-few : goal.returns-clause-few
returns-clause-few g c = omega (arith, c.discard.ensures.made, ap (λ (r : PlainRecord). length r.moves) c.in_ok-undo.ensures)
