-- What a replay grows that was limited to a sample at first.
use Rattle.std.specs.Prelude.{◌≡◌, ℕ, true, false, [], length}
use Rattle.std.proofs.Common.{sym, subst}
use Rattle.rev_classes.specs.declared.Config.{Config}
use Rattle.rev_tree.specs.Positions.{SessionState}
use Rattle.rev_lead.specs.Acts.{begun}
use Rattle.rev_evidence.specs.Notes.{PlainNotes}
use Rattle.rev_replay.specs.declared.keeping.Keeping.{Keeping}
use Rattle.rev_replay.specs.Turns.{ReplayState, GoesOn, Grows, at_first}
use Rattle.rev_replay.proofs.Going.{grows_of}

-- to limit it leaves it as it is
pub grows_limited : (k : Keeping) (c : Config) (m t : SessionState) (notes : PlainNotes) (before : ℕ) (q r s : ReplayState) → GoesOn false (at_first k c (begun (record { session = m; roles = [] }))) q → r ≡ q → GoesOn true r s →
    s.counted ≡ record { before = before; stage = record { session = t; roles = notes.roles } } → length notes.moments ≡ length t.rows → Grows k c m t notes before
grows_limited k c m t notes before q r s a same b e moments =
    grows_of k c m t notes before r s (subst (λ u. GoesOn false (at_first k c (begun (record { session = m; roles = [] }))) u) (sym same) a) b e moments
