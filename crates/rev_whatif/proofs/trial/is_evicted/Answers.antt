use Rattle.std.proofs.Common.{◌≡◌, ◌∙◌, ℕ, List, Bool, true, false, not, cond, Some, sym, ap, ap₂, arith}
use Rattle.rev_model.specs.declared.Cause.{Cause}
use Rattle.rev_explain.specs.Departures.{departure}
use Rattle.rev_figures.specs.Tables.{is_eviction}
use Rattle.rev_whatif.specs.Trials.{evicted}
use Rattle.rev_whatif.proofs.trial.is_evicted.Goals as goal

-- a key that left by an eviction counts, unless the step stored it again
unless_stored : (n : ℕ) (k : List ℕ) (c : Cause) (stored : Bool) → is_eviction c ≡ true → evicted (departure n k stored (Some c)) ≡ cond (not stored) 1 0
unless_stored n k c true e = omega arith
unless_stored n k c false e = let one = ap {B = ℕ} (λ b. cond b 1 0) e in omega (arith, one)

pub returns-then-is_eviction : goal.returns-then-is_eviction
returns-then-is_eviction g c = λ node.
    let key = c.args.key.now in
    ap₂ (λ b o. evicted (departure node key b o)) (sym c.has_stored.ensures) c.in-Some.is
    ∙ unless_stored node key c.in-Some.cause c.has_stored.result (sym c.is_eviction.ensures ∙ c.if-is_eviction.true)
