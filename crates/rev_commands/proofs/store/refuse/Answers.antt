use Rattle.std.specs.Prelude.{ℕ, List, length, ◌≤◌}
use Rattle.std.proofs.Common.{arith, ap}
use Rattle.rev_model.specs.State.{State, find}
use Rattle.rev_model.specs.Client.{Verb, Sets, Adds, Replaces, Cases}
use Rattle.rev_requests.specs.Plain.{plain_verb}
use Rattle.rev_commands.proofs.Looking.{removal_most}
use Rattle.rev_commands.specs.Placing.{failed_need}
use Rattle.rev_model.proofs.Undo.{leads_none}
use Rattle.rev_model.specs.declared.Outcome.TheVariants.{TooLarge}
use Rattle.rev_inverse.specs.Record.{PlainRecord}
use Rattle.rev_edits.proofs.Telling.{tells_all}
use Rattle.rev_commands.proofs.store.refuse.Goals as goal

failed_most : (v : Verb) (s : State) (k : List ℕ) → failed_need v s k ≤ 4
failed_most Sets s k = removal_most (find s k)
failed_most Adds s k = omega arith
failed_most Replaces s k = omega arith
failed_most (Cases n) s k = omega arith

pub returns-clause-few : goal.returns-clause-few
returns-clause-few g c =
    let none = ap (λ r. length r.moves) c.in_ok-undo.ensures in
    omega (arith, none, failed_most (plain_verb c.args.verb) c.args.store.now c.args.key.now, c.give_up.ensures.made)

pub give_up-requires-clause-room : goal.give_up-requires-clause-room
give_up-requires-clause-room g c =
    omega (arith, ap (λ (r : PlainRecord). length r.moves) c.in_ok-undo.ensures, ap (λ (r : PlainRecord). r.room) c.in_ok-undo.ensures, c.failed_moves.ensures)

pub returns-clause-step : goal.returns-clause-step
returns-clause-step g c = c.give_up.ensures.done TooLarge

pub returns-clause-sound : goal.returns-clause-sound
returns-clause-sound g c = c.give_up.ensures.sound

pub returns-clause-leads : goal.returns-clause-leads
returns-clause-leads g c = c.give_up.ensures.leads c.args.store.now (rw c.in_ok-undo.ensures (leads_none c.args.store.now))

pub returns-clause-told : goal.returns-clause-told
returns-clause-told g c = tells_all _ _ _ _ _ (ap (λ (r : PlainRecord). r.moves) c.in_ok-undo.ensures) (ap (λ (r : PlainRecord). r.notes) c.in_ok-undo.ensures) c.give_up.ensures.told
