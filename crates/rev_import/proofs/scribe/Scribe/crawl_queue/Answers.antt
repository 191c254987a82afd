use Rattle.std.proofs.lemmas.Result.{on_ok_weaker}
use Rattle.rev_import.proofs.Written.{actor, more, writes_none}
use Rattle.rev_import.proofs.scribe.Scribe.crawl_queue.Goals as goal

pub loop-init : goal.loop-init
loop-init g c = writes_none _

pub loop-preserved : goal.loop-preserved
loop-preserved g c = more c.loop.invariant (actor _ c.in_ok-put_crawl.ensures)

pub returns : goal.returns
returns g c = on_ok_weaker c.put_crawl-2.result (λ x. more c.loop.invariant (actor _ x)) c.put_crawl-2.ensures
