use Rattle.std.proofs.Common.{◌≡◌, drop}
use Rattle.rev_model.specs.Pull.{page_from}
use Rattle.rev_pages.proofs.pages.Pages.lowest_page.Given as goal

abbrev pub invariant-loop-page : goal.invariant-loop-page
invariant-loop-page g l = page_from 0 l.class l.self.owner ≡ page_from l.page l.class (drop l.page l.self.owner)
