use Rattle.std.proofs.Common.{◌≡◌, [], take}
use Rattle.rev_whatif.specs.Trials.{courses_of}
use Rattle.rev_whatif.proofs.course.Trials.open.Given as goal

abbrev pub invariant-loop-setting : goal.invariant-loop-setting
invariant-loop-setting l = l.courses.items ≡ courses_of l.fn.config [] (take l.setting-index l.settings)
