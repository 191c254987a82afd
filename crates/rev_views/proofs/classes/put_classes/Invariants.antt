use Rattle.std.proofs.Common.{◌≡◌, ◌++◌}
use Rattle.rev_views.specs.Classes.{classes_to}
use Rattle.rev_views.proofs.classes.put_classes.Given as goal

abbrev pub invariant-loop-passed : goal.invariant-loop-passed
invariant-loop-passed g l = l.out.items ≡ l.fn.out.items ++ classes_to l.store l.passed
