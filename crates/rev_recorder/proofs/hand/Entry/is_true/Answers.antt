use Rattle.std.proofs.Common.{◌≡◌, Some, sym, ap, ◌∙◌}
use Rattle.std.specs.Option.{option_map}
use Rattle.rev_requests.specs.Plain.{plain_step}
use Rattle.rev_recorder.specs.declared.hand.Call.TheVariants.{Play}
use Rattle.rev_recorder.specs.Hands.{PlainEntry}
use Rattle.rev_recorder.proofs.Compare.{true-play}
use Rattle.rev_recorder.proofs.hand.Entry.is_true.Goals as goal

pub returns-then-is_same : goal.returns-then-is_same
returns-then-is_same c =
    let entry : PlainEntry = c.args.self.now in
    let call : entry.receipt.call ≡ Play c.in-Play.node = sym (ap (λ (e : PlainEntry). e.receipt.call) c.self.view_is) ∙ c.in-Play.is in
    let copy : entry.step ≡ Some (plain_step c.in-Some-step.copy) = sym (ap (λ (e : PlainEntry). e.step) c.self.view_is) ∙ ap (option_map plain_step) c.in-Some-step.is in
    let row = c.in-Some.ensures.some in
    let both = true-play c.args.session.now entry c.in-Play.node row.0 (plain_step c.in-Some-step.copy) (plain_step c.in-Some.step.now) c.in-Some.outcome call copy row.1 row.2 row.3 (c.is_same.ensures.0 c.if-is_same.true) in
    (λ e. both.0 (c.answers.ensures.0 e), λ t. c.answers.ensures.1 (both.1 t))
