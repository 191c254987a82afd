use Rattle.std.proofs.Common.{◌≡◌, ◌++◌, Ok, map}
use Rattle.rev_whatif.proofs.course.all_done.Given as goal

abbrev pub invariant-loop-result : goal.invariant-loop-result
invariant-loop-result l = map Ok l.courses.items ++ l.result-iterator.rest.items ≡ l.fn.results.items
