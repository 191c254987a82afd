use Rattle.std.specs.Prelude.{◌≡◌, false, nat_lt, refl}
use Rattle.std.proofs.Common.{◌∙◌, ap}
use Rattle.std.proofs.lemmas.Bool.{le-ltb}
use Rattle.std.proofs.lemmas.Result.{IfOk-weaker}
use Rattle.rev_model.specs.Actor.{clock}
use Rattle.rev_steps.specs.Exchange.{exchanged, timing_at}
use Rattle.rev_steps.proofs.Exchange.{timing_is}
use Rattle.rev_model.specs.declared.GlobalPart.TheVariants as part
use Rattle.rev_steps.proofs.clocks.set_clock.Goals as goal

pub returns-clause-step : goal.returns-clause-step
returns-clause-step g c =
    let s = c.args.store.now in
    let n = c.args.now in
    let later : nat_lt n s.globals.clock ≡ false = le-ltb n s.globals.clock (rw (← c.globals-globals.ensures) c.if-now-globals.false) in
    let next : c.at_clock.result ≡ timing_at n s.globals = c.at_clock.ensures ∙ ap (timing_at n) c.globals-globals.ensures in
    let done : exchanged (part.Timing (timing_at n s.globals)) s ≡ clock s n = rw (later, timing_is n s.globals) refl in
    IfOk-weaker c.exchange.result _ _ (λ p h. h ∙ ap (λ k. exchanged (part.Timing k) s) next ∙ done) c.exchange.ensures.step
