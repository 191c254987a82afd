use Rattle.rev_model.specs.Actor.{CrawlStart}
use Rattle.rev_model.specs.declared.ClassSet.TheVariants.{All, These}
use Rattle.rev_lines.proofs.Putting.{puts, lacks, all_has, some_lack}
use Rattle.rev_lines.proofs.line.put_crawl_start.Goals as goal

pub returns-in_ok-put_words-in-All : goal.returns-in_ok-put_words-in-All
returns-in_ok-put_words-in-All g c = rw c.in-All.is (puts _ _ (CrawlStart All) all_has c.in_ok-put_words-in-All.ensures)

pub returns-in-These : goal.returns-in-These
returns-in-These g c = rw c.in-These.is (lacks _ (CrawlStart (These c.in-These.field-0)) (some_lack c.in-These.field-0))
