-- The last line that names a key.
use Rattle.std.specs.Prelude.{◌≡◌, ℕ, ◌-◌, ◌<◌, List, None}
use Rattle.std.proofs.Common.{sym, ◌∙◌, ap, arith, zero, suc}
use Rattle.rev_watch.specs.declared.event.Timestamp.{Timestamp}
use Rattle.rev_evidence.specs.Blame.{or_else}
use Rattle.rev_evidence.specs.Notes.{named_in, last_named, of_node}
use Rattle.rev_evidence.specs.declared.notes.Moment.{Moment}

-- where that of the last of the first n nodes does not
pub named_above : (ms : List Moment) (h : ℕ) (t : Timestamp) (n : ℕ) → 0 < n → None ≡ named_in h t (of_node ms n) → last_named ms h t n ≡ last_named ms h t (n - 1)
named_above ms h t zero pos e = absurd (omega (arith, pos))
named_above ms h t (suc n) pos e = ap (λ o. or_else o (last_named ms h t n)) (sym e) ∙ ap (last_named ms h t) (omega arith)
