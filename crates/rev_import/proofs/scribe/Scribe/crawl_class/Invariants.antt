use Rattle.std.proofs.Common.{[]}
use Rattle.rev_import.specs.Writing.{Writes}
use Rattle.rev_import.proofs.scribe.Scribe.crawl_class.Given as goal

abbrev pub invariant-loop-queue : goal.invariant-loop-queue
invariant-loop-queue g l = Writes l.fn.out.items l.out.items []
