-- The state behind a step that was played.
use Rattle.std.proofs.Common.{◌≡◌, ℕ, ◌+◌, ◌≤◌, not, suc, zero, List, [], ◌∷◌, ◌++◌, length, Option, None, Some, refl, sym, ◌∙◌, ap, arith, length-append}
use Rattle.rev_tree.specs.Steps.{State, Step, next}
use Rattle.rev_tree.specs.Rows.{Row, row_of, row}
use Rattle.rev_tree.specs.Machine.{is_continued}
use Rattle.rev_tree.specs.Positions.{SessionState}
use Rattle.rev_tree.proofs.Growth.{row_of-last, falls_more}
use Rattle.rev_tree.proofs.Rows.{at-step}
use Rattle.rev_undotree.proofs.Mentioned.{at_more}
use Rattle.rev_plays.specs.Replies.{state_of, played}
use Rattle.rev_lead.specs.Acts.{Ordered}

no_row : (n : ℕ) (r : Row) → row_of [] n ≡ Some r → ⊥
no_row zero r h = cc
no_row (suc n) r h = cc

-- a session without a node is ordered
pub ordered_root : (s : State) → Ordered (record { root = s; rows = []; current = 0 })
ordered_root s = record { falls = λ n r h. absurd (no_row n r h); within = omega arith }

-- a play keeps that
pub ordered_played : (m : SessionState) (e : Step) → Ordered m → Ordered (played m e)
ordered_played m e h =
    let r : Row = row m.current e (not (is_continued m.rows m.current)) in
    let size = length-append m.rows (Some r ∷ []) in
    record { falls = falls_more m.rows r h.falls h.within; within = omega (arith, size) }

-- the step was played at the state in front of it
pub played_state : (m : SessionState) (e : Step) → Ordered m → state_of (played m e) ≡ next (state_of m) e
played_state m e h =
    let r : Row = row m.current e (not (is_continued m.rows m.current)) in
    let more : List (Option Row) = m.rows ++ Some r ∷ [] in
    let number : length m.rows + 1 ≡ suc (length m.rows) = omega arith in
    let last : row_of more (length m.rows + 1) ≡ Some r = ap (row_of more) number ∙ row_of-last m.rows (Some r) in
    at-step m.root more (falls_more m.rows r h.falls h.within) (length m.rows + 1) r last
    ∙ ap (λ s. next s e) (at_more m.root m.rows (Some r) h.falls m.current h.within)

-- what a session says of a play: it is the play of the step
pub played_is : (m n : SessionState) (e : Step) (k : ℕ) → n ≡ record { root = m.root; rows = m.rows ++ Some (row m.current e (not (is_continued m.rows m.current))) ∷ []; current = k } → k ≡ length m.rows + 1 → n ≡ played m e
played_is m n e k is number = rw number at is
