use Rattle.std.proofs.Common.{◌≡◌, ◌-◌, drop}
use Rattle.rev_pages.specs.State.{with_free, carved, free_of}
use Rattle.rev_pages.proofs.pages.Pages.uncarve.Given as goal

abbrev pub invariant-loop-k : goal.invariant-loop-k
invariant-loop-k g l = l.self ≡ with_free l.initial.self l.class (carved l.page (l.n - l.k) (drop l.n (free_of l.initial.self l.class)))
