use Rattle.std.proofs.Common.{rules}
use Rattle.rev_edits.proofs.page.page_of.Goals as goal

pub returns-then-not-owns_page : goal.returns-then-not-owns_page
returns-then-not-owns_page g c = search rules steps 500000
