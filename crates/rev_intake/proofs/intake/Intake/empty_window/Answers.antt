use Rattle.std.proofs.Common.{◌≡◌, ap, length, arith}
use Rattle.rev_intake.proofs.Taken.{none_given, given_more, all_given, popped_length}
use Rattle.rev_intake.proofs.intake.Intake.empty_window.Goals as goal

pub held-init : goal.held-init
held-init g c = none_given _ _ _

pub held-preserved : goal.held-preserved
held-preserved g c =
    let popped = rw c.in-Some.is at c.pop.ensures in
    let rest = c.in_ok-take-in-Some.ensures.rest in
    given_more _ _ _ _ _ _ _ _ _ _ _ _ c.self.view_is c.held.invariant popped rest.window rest.counts c.in_ok-take-in-Some.ensures.passes

pub held-smaller : goal.held-smaller
held-smaller g c =
    let popped = rw c.in-Some.is at c.pop.ensures in
    let fewer = popped_length _ _ _ popped in
    let before : length c.self.inside.window.held ≡ length c.held.self.window.held = ap (λ i. length i.window.held) c.self.view_is in
    let after : length c.take.new.self.window.held ≡ length c.pop.new.self.held = ap (λ w. length w.held) c.in_ok-take-in-Some.ensures.rest.window in
    omega (arith, fewer, before, after)

pub returns-in-None-clause-passes : goal.returns-in-None-clause-passes
returns-in-None-clause-passes g c =
    let popped = rw c.in-None.is at c.pop.ensures in
    all_given _ _ _ _ _ _ _ _ c.self.view_is c.held.invariant popped
