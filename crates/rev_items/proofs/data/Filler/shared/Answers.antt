use Rattle.std.proofs.Common.{rules, ◌≡◌, ◌∙◌, length, take, Result, Ok, Err, IfOk, IfSome}
use Rattle.std.specs.Result.{result_ok}
use Rattle.rev_items.proofs.data.Filler.shared.Goals as goal

told : {X E : Type 0} (r : Result X E) (a b : X) → IfOk r (λ x. x ≡ a) → a ≡ b → IfSome (result_ok r) (λ x. x ≡ b)
told (Ok x) a b h e = h ∙ e
told (Err x) a b h e = tt

pub returns : goal.returns
returns g c =
    let block = c.in_ok-block.block.now.value.items in
    let front : take (length c.args.bytes.now) block ≡ c.args.bytes.now = search rules in
    rw c.ok.ensures.value (told c.front.result (take (length c.args.bytes.now) block) c.args.bytes.now c.front.ensures front)
