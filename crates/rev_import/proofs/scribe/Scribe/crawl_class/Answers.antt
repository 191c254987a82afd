use Rattle.rev_import.proofs.Written.{actor, more}
use Rattle.rev_import.proofs.scribe.Scribe.crawl_class.Goals as goal

pub loop-queue-init : goal.loop-queue-init
loop-queue-init g c = actor _ c.in_ok-put_crawl_start.ensures

pub loop-queue-preserved : goal.loop-queue-preserved
loop-queue-preserved g c = more c.loop-queue.invariant c.in_ok-crawl_queue.ensures
