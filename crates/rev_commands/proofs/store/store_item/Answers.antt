use Rattle.std.specs.Prelude.{◌≡◌, IfOk}
use Rattle.std.proofs.Common.{rules}
use Rattle.std.proofs.Common.{ap, subst, w32, to_z, of_z}
use Rattle.std.proofs.lemmas.Int.{to_z-of_z}
use Rattle.rev_model.specs.State.{State}
use Rattle.rev_model.specs.declared.Outcome.{Outcome}
use Rattle.rev_requests.specs.Plain.{plain_payload, plain_verb}
use Rattle.rev_commands.proofs.Settling.{stored_by_size}
use Rattle.rev_commands.proofs.store.store_item.Goals as goal

pub returns-in-Some-clause-step : goal.returns-in-Some-clause-step
returns-in-Some-clause-step g c =
    let same = stored_by_size c.args.store.now (plain_verb c.args.verb) c.in-Some.class c.args.key.now c.in-Bytes.value c.args.flags c.len.result c.args.exptime (to_z w32 (of_z w32 c.args.exptime)) (plain_payload c.args.payload.now) c.class_for.result
    c.class_for.ensures.class c.in-Some.is (search rules) (to_z-of_z w32 c.args.exptime c.ranges.exptime) (ap plain_payload c.in-Bytes.is) in
    subst (λ (z : State × Outcome). IfOk c.store_in.result (λ p. (c.store_in.new.store, p.0) ≡ z)) same c.store_in.ensures.step

pub returns-in-Skipped-clause-step : goal.returns-in-Skipped-clause-step
returns-in-Skipped-clause-step g c = search rules steps 1500000

pub returns-in-Skipped-clause-told : goal.returns-in-Skipped-clause-told
returns-in-Skipped-clause-told g c = search rules steps 1500000
