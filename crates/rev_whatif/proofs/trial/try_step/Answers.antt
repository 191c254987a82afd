use Rattle.std.proofs.Common.{refl, sym, ◌∙◌}
use Rattle.rev_whatif.proofs.trial.try_step.Goals as goal

pub returns-then-is_left_out-clause-state : goal.returns-then-is_left_out-clause-state
returns-then-is_left_out-clause-state g c = rw (sym c.is_left_out.ensures ∙ c.if-is_left_out.true) refl

pub returns-then-is_left_out-clause-counts : goal.returns-then-is_left_out-clause-counts
returns-then-is_left_out-clause-counts g c = rw (sym c.is_left_out.ensures ∙ c.if-is_left_out.true) refl

pub returns-clause-state : goal.returns-clause-state
returns-clause-state g c = rw (sym c.is_left_out.ensures ∙ c.if-is_left_out.false) c.in_ok-count_step.ensures.state

pub returns-clause-counts : goal.returns-clause-counts
returns-clause-counts g c = rw (sym c.is_left_out.ensures ∙ c.if-is_left_out.false) c.in_ok-count_step.ensures.counts
