use Rattle.std.proofs.Common.{◌≡◌, ◌<◌, ℕ, IfOk, get_or, subst}
use Rattle.rev_figures.specs.Slots.{slot_counts}
use Rattle.rev_figures.specs.declared.tables.CauseCounts.{CauseCounts}
use Rattle.rev_figures.proofs.by_slot.left_by_slot.Goals as goal

pub returns-clause-counts : goal.returns-clause-counts
returns-clause-counts g c =
    subst
    (λ ls. IfOk c.count_leavings.result (λ counts. (k : ℕ) (d : CauseCounts) → k < c.args.slots → get_or counts.items k d ≡ slot_counts c.args.path.now.slot_length k ls))
    c.deref.ensures.value c.count_leavings.ensures.counts
