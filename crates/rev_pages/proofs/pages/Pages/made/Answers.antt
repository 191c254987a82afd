use Rattle.std.proofs.Common.{rules}
use Rattle.rev_pages.proofs.pages.Pages.made.Goals as goal

pub returns-clause-made : goal.returns-clause-made
returns-clause-made g c = search rules steps 500000
