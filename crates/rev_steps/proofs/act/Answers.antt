use Rattle.std.proofs.Common.{rules}
use Rattle.rev_steps.proofs.act.Goals as goal

pub returns-in-Crawl-clause-step : goal.returns-in-Crawl-clause-step
returns-in-Crawl-clause-step g c = search rules steps 1500000

pub returns-in-Crawl-clause-told : goal.returns-in-Crawl-clause-told
returns-in-Crawl-clause-told g c = search rules steps 1500000
