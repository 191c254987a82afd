use Rattle.std.proofs.Common.{ℕ, ◌-◌, ◌+◌, arith, sym, ◌∙◌, ap, subst}
use Rattle.rev_explain.specs.Clocks.{Clocked}
use Rattle.rev_explain.proofs.Timing.{last_clock}
use Rattle.rev_explain.proofs.clocks.clock_on_way.Goals as goal

-- what stands behind the d-th node stands in front of the next
next_at : (f : ℕ → Type 0) (d : ℕ) → f d → f (d + 1 - 1)
next_at f d t = subst f (omega arith) t

pub returns-in-Some : goal.returns-in-Some
returns-in-Some g c = λ clock w. c.in-Some.ensures.before clock (next_at (λ d. Clocked c.args.session.now d clock) c.steps.behind (c.steps.invariant clock w).1)

pub returns-in-Some-set_at : goal.returns-in-Some-set_at
returns-in-Some-set_at g c = λ clock w. c.in-Some-set_at.ensures.after clock (c.steps.invariant clock w).0

pub steps-preserved : goal.steps-preserved
steps-preserved g c = λ clock w.
    let both = c.steps.invariant clock w in
    let last = c.depth-last.ensures in
    let test = c.steps-test.true in (
      subst (λ d. Clocked c.args.session.now d clock) (sym c.saturating_sub-above.ensures) (c.in-None-set_at.ensures.up clock both.0),
      c.in-None.ensures.down clock (omega (arith, last, test)) (next_at (λ d. Clocked c.args.session.now d clock) c.steps.behind both.1),
    )

pub returns : goal.returns
returns g c = λ clock w.
    let last = c.depth-last.ensures in
    let test = c.steps-test.false in
    last_clock c.args.session.now c.steps.behind clock c.globals.result.clock (c.steps.invariant clock w).1 (omega (arith, last, test))
    (ap (λ g. g.clock) c.globals.ensures ∙ ap (λ s. s.globals.clock) c.store.ensures.state)
