use Rattle.std.proofs.Common.{◌≡◌, ◌++◌, take}
use Rattle.rev_texts.specs.Texts.{pages_text}
use Rattle.rev_views.proofs.show.put_pages.Given as goal

abbrev pub invariant-loop-page : goal.invariant-loop-page
invariant-loop-page g l = l.answer.items ≡ l.fn.answer.items ++ pages_text 0 (take l.page l.store.owner)
