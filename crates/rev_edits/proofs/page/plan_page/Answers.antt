use Rattle.std.proofs.Common.{rules}
use Rattle.rev_edits.proofs.page.plan_page.Goals as goal

pub returns-in_ok-parts-in-Some : goal.returns-in_ok-parts-in-Some
returns-in_ok-parts-in-Some g c = search rules steps 500000
