use Rattle.std.specs.Prelude.{ℕ, List, ◌++◌}
use Rattle.std.proofs.Common.{sym, ◌∙◌, ap}
use Rattle.rev_model.specs.Client.{Bytes, Appends, Prepends, joined}
use Rattle.rev_requests.specs.Plain.{plain_side, plain_payload}
use Rattle.rev_commands.specs.Living.{live_at}
use Rattle.rev_commands.proofs.Living.{lives}
use Rattle.rev_commands.proofs.Plans.{joins_ok}
use Rattle.rev_commands.proofs.plan.plan_join.Goals as goal

pub returns-in-Append : goal.returns-in-Append
returns-in-Append g c =
    let i = c.in-Some.old.now in
    let l = lives c.args.store.now c.requires.sound.well c.args.key.now i (ap (live_at c.args.store.now) (sym c.requires.led) ∙ sym c.in-Some.ensures) in
    joins_ok c.args.store.now c.args.key.now i l c.plan_data.result (plain_side c.args.side) (plain_payload c.args.payload.now) (Bytes (c.value-kept.result.now ++ c.as_slice-added.result.now))
    (ap (λ (v : List ℕ). Bytes (v ++ c.as_slice-added.result.now)) c.value-kept.ensures
    ∙ ap (λ (v : List ℕ). Bytes (i.value ++ v)) c.as_slice-added.ensures
    ∙ sym (ap (λ d. joined (plain_side d) i.value (plain_payload c.args.payload.now)) c.in-Append.is
    ∙ ap (λ p. joined Appends i.value (plain_payload p)) c.in-Bytes.is))
    c.plan_data.ensures

pub returns-in-Prepend : goal.returns-in-Prepend
returns-in-Prepend g c =
    let i = c.in-Some.old.now in
    let l = lives c.args.store.now c.requires.sound.well c.args.key.now i (ap (live_at c.args.store.now) (sym c.requires.led) ∙ sym c.in-Some.ensures) in
    joins_ok c.args.store.now c.args.key.now i l c.plan_data-in-Prepend.result (plain_side c.args.side) (plain_payload c.args.payload.now) (Bytes (c.as_slice-added.result.now ++ c.value-kept.result.now))
    (ap (λ (v : List ℕ). Bytes (v ++ c.value-kept.result.now)) c.as_slice-added.ensures
    ∙ ap (λ (v : List ℕ). Bytes (c.in-Bytes.value ++ v)) c.value-kept.ensures
    ∙ sym (ap (λ d. joined (plain_side d) i.value (plain_payload c.args.payload.now)) c.in-Prepend.is
    ∙ ap (λ p. joined Prepends i.value (plain_payload p)) c.in-Bytes.is))
    c.plan_data-in-Prepend.ensures
