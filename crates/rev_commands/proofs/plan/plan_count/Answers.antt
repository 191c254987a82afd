use Rattle.std.specs.Prelude.{ℕ, List, ◌++◌, []}
use Rattle.std.proofs.Common.{sym, ◌∙◌, ap, append-nil}
use Rattle.std.specs.Fmt.{decimal}
use Rattle.rev_model.specs.Client.{Bytes}
use Rattle.rev_requests.specs.Plain.{plain_sum, amount}
use Rattle.rev_commands.specs.Living.{live_at}
use Rattle.rev_commands.proofs.Living.{lives}
use Rattle.rev_commands.specs.Numbers.{number_in}
use Rattle.rev_commands.proofs.Plans.{counts_ok}
use Rattle.rev_commands.proofs.plan.plan_count.Goals as goal

pub returns : goal.returns
returns g c =
    let i = c.in-Some.old.now in
    let n = c.summed-number.result in
    let l = lives c.args.store.now c.requires.sound.well c.args.key.now i (ap (live_at c.args.store.now) (sym c.requires.led) ∙ sym c.in-Some.ensures) in
    counts_ok c.args.store.now c.args.key.now i l c.plan_data.result (plain_sum c.args.arithmetic) (amount c.args.arithmetic) c.in-Some-number_of.number n (Bytes (c.as_bytes-digits.result.now ++ []))
    (ap number_in (sym c.value.ensures) ∙ sym c.in-Some-number_of.ensures) c.summed-number.ensures
    (ap (λ (v : List ℕ). Bytes (v ++ [])) (c.as_bytes-digits.ensures.value ∙ c.format.ensures.text) ∙ ap Bytes (append-nil (decimal n)))
    c.plan_data.ensures
