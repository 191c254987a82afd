use Rattle.std.proofs.Common.{[]}
use Rattle.rev_import.specs.Writing.{Writes}
use Rattle.rev_import.proofs.scribe.Scribe.crawl_queue.Given as goal

abbrev pub invariant-loop : goal.invariant-loop
invariant-loop g l = Writes l.fn.out.items l.out.items []
