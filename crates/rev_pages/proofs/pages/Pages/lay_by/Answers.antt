use Rattle.std.proofs.Common.{rules}
use Rattle.rev_pages.proofs.pages.Pages.lay_by.Goals as goal

pub returns : goal.returns
returns g c = search rules steps 500000
