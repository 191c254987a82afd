use Rattle.std.proofs.Common.{◌≡◌, ◌<◌, ℕ, fold, length, take, get_or}
use Rattle.rev_figures.specs.Sums.{step_at}
use Rattle.rev_figures.specs.declared.by_class.StepCounts.{StepCounts}
use Rattle.rev_figures.proofs.sums.count_steps.Given as goal

-- the steps up to the next one are counted
abbrev pub invariant-loop-step : goal.invariant-loop-step
invariant-loop-step g l = record {
  wide : length l.counts.items ≡ length l.fn.counts.items;
  told : (c : ℕ) (d : StepCounts) → c < length l.fn.counts.items → get_or l.counts.items c d ≡ fold (step_at c) (get_or l.fn.counts.items c d) (take l.step-index l.steps);
}
