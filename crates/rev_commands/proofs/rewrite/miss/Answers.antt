use Rattle.std.specs.Prelude.{length, None}
use Rattle.std.proofs.Common.{ap, arith}
use Rattle.rev_model.specs.State.{find}
use Rattle.rev_model.proofs.Undo.{leads_none}
use Rattle.rev_inverse.specs.Record.{PlainRecord}
use Rattle.rev_commands.specs.Looking.{found_need}
use Rattle.rev_commands.proofs.Looking.{look_most, removal_most}
use Rattle.rev_commands.proofs.Standing.{found_stands}
use Rattle.rev_edits.proofs.Telling.{tells_all}
use Rattle.rev_commands.proofs.rewrite.miss.Goals as goal

pub lookup_at-none-requires-clause-room : goal.lookup_at-none-requires-clause-room
lookup_at-none-requires-clause-room g c =
    omega (arith, look_most c.args.store.now c.args.key.now, c.removal_moves_at.ensures, ap found_need c.requires.led, ap (λ (r : PlainRecord). length r.moves) c.in_ok-undo.ensures, ap (λ (r : PlainRecord). r.room) c.in_ok-undo.ensures)

pub lookup_at-none-requires-clause-led : goal.lookup_at-none-requires-clause-led
lookup_at-none-requires-clause-led g c = found_stands c.args.store.now c.requires.sound.well c.args.key.now c.args.found c.requires.led

pub returns-clause-leads : goal.returns-clause-leads
returns-clause-leads g c = c.lookup_at-none.ensures.leads c.args.store.now (rw c.in_ok-undo.ensures (leads_none c.args.store.now))

pub returns-clause-few : goal.returns-clause-few
returns-clause-few g c =
    omega (arith, c.lookup_at-none.ensures.made, look_most c.args.store.now c.args.key.now, removal_most (find c.args.store.now c.args.key.now), ap (λ (r : PlainRecord). length r.moves) c.in_ok-undo.ensures)

pub returns-clause-sound : goal.returns-clause-sound
returns-clause-sound g c = c.lookup_at-none.ensures.sound None c.requires.sound

pub returns-clause-told : goal.returns-clause-told
returns-clause-told g c = tells_all _ _ _ _ _ (ap (λ (r : PlainRecord). r.moves) c.in_ok-undo.ensures) (ap (λ (r : PlainRecord). r.notes) c.in_ok-undo.ensures) c.lookup_at-none.ensures.told
