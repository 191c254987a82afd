use Rattle.std.proofs.Common.{ap}
use Rattle.rev_intake.specs.Events.{given_of}
use Rattle.rev_intake.proofs.Taken.{not_given}
use Rattle.rev_intake.proofs.intake.Intake.put.Goals as goal

pub returns-in-Held-clause-passes : goal.returns-in-Held-clause-passes
returns-in-Held-clause-passes g c =
    let seen = c.self.view_is in
    not_given _ _ _ _ _ _ _ _ _ _ _ _ c.in_ok-put.ensures.ok (ap (λ i. i.window) seen) (ap given_of c.in-Held.is) (ap (λ i. i.waiting) seen) (ap (λ i. i.waits) seen)

pub returns-in-Late-clause-passes : goal.returns-in-Late-clause-passes
returns-in-Late-clause-passes g c =
    let seen = c.self.view_is in
    not_given _ _ _ _ _ _ _ _ _ _ _ _ c.in_ok-put.ensures.ok (ap (λ i. i.window) seen) (ap given_of c.in-Late.is) (ap (λ i. i.waiting) seen) (ap (λ i. i.waits) seen)

pub returns-in-Repeated-clause-passes : goal.returns-in-Repeated-clause-passes
returns-in-Repeated-clause-passes g c =
    let seen = c.self.view_is in
    not_given _ _ _ _ _ _ _ _ _ _ _ _ c.in_ok-put.ensures.ok (ap (λ i. i.window) seen) (ap given_of c.in-Repeated.is) (ap (λ i. i.waiting) seen) (ap (λ i. i.waits) seen)
