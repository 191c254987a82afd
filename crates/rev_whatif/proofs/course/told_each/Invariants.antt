use Rattle.std.proofs.Common.{◌≡◌, map, take}
use Rattle.rev_whatif.specs.Trials.{trial_by}
use Rattle.rev_whatif.proofs.course.told_each.Given as goal

abbrev pub invariant-loop-course : goal.invariant-loop-course
invariant-loop-course l = l.trials.items ≡ map trial_by (take l.course-index l.courses)
