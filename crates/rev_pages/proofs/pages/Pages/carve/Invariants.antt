use Rattle.std.proofs.Common.{◌≡◌}
use Rattle.rev_pages.specs.State.{with_free, carved, free_of}
use Rattle.rev_pages.proofs.pages.Pages.carve.Given as goal

abbrev pub invariant-loop-slot : goal.invariant-loop-slot
invariant-loop-slot g l = l.self ≡ with_free l.initial.self l.class (carved l.page l.slot (free_of l.initial.self l.class))
