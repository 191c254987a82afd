use Rattle.std.proofs.Common.{◌≡◌, ◌+◌, length}
use Rattle.rev_import.specs.Becoming.{Moves}
use Rattle.rev_import.proofs.import.Import.finish.Given as goal

abbrev pub invariant-loop : goal.invariant-loop
invariant-loop g l = Moves l.fn.self.waiting l.self.waiting l.fn.out.items l.out.items × (length l.self.waiting + l.counter ≡ length l.fn.self.waiting)
