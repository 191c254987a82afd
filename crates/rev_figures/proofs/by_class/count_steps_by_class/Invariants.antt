use Rattle.std.proofs.Common.{◌≡◌, ◌<◌, ℕ, length, take, get_or}
use Rattle.rev_figures.specs.Classes.{step_counts}
use Rattle.rev_figures.specs.declared.by_class.StepCounts.{StepCounts}
use Rattle.rev_figures.proofs.by_class.count_steps_by_class.Given as goal

-- the steps up to the next one are counted
abbrev pub invariant-loop-step : goal.invariant-loop-step
invariant-loop-step g l = record {
  wide : length l.counts.items ≡ 256;
  told : (c : ℕ) (d : StepCounts) → c < 256 → get_or l.counts.items c d ≡ step_counts c (take l.step-index l.steps);
}
