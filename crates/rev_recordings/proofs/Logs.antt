-- Rows of a log, one after another.
use Rattle.std.proofs.Common.{◌≡◌, ◌<◌, ℕ, zero, suc, ◌+◌, List, [], ◌∷◌, ◌++◌, length, map, drop, slice_index_or, All, Result, refl, ◌∙◌, ap, arith, append_assoc}
use Rattle.rev_tree.specs.Positions.{SessionState}
use Rattle.rev_recorder.specs.declared.hand.LogRow.{LogRow}
use Rattle.rev_recorder.specs.declared.recorder.RecordFault.{RecordFault}
use Rattle.rev_recorder.specs.Hands.{PlainHand}
use Rattle.rev_recordings.specs.Rows.{call_text, rows_text, end_text, ends_text, IsEnd}

drop-at : (log : List LogRow) (n : ℕ) (d : LogRow) → n < length log → drop n log ≡ slice_index_or log n d ∷ drop (suc n) log
drop-at [] n d lt = absurd (omega (arith, lt))
drop-at (x ∷ xs) zero d lt = refl
drop-at (x ∷ xs) (suc n) d lt = drop-at xs n d (omega (arith, lt))

-- the row of the call at a place stands in front of those that are left
pub rows-next : (m : SessionState) (log : List LogRow) (n : ℕ) (d : LogRow) → n < length log →
    rows_text m n (drop n log) ≡ call_text m n (slice_index_or log n d).player (slice_index_or log n d).call ++ rows_text m (n + 1) (drop (n + 1) log)
rows-next m log n d lt = let e : n + 1 ≡ suc n = omega arith in rw e (ap (λ l. rows_text m n l) (drop-at log n d lt))

-- the line of the first player of those that are left
pub ends-next : (old mid all : List ℕ) (e : PlainHand × Result (Unit {0}) RecordFault) (rest : List (PlainHand × Result (Unit {0}) RecordFault)) (player : ℕ) →
    player ≡ e.0.player → mid ≡ old ++ end_text player e.1 → old ++ ends_text (e ∷ rest) ≡ all → mid ++ ends_text rest ≡ all
ends-next old mid all e rest player a m h = ap (λ t. t ++ ends_text rest) (m ∙ ap (λ n. old ++ end_text n e.1) a) ∙ append_assoc old (end_text e.0.player e.1) (ends_text rest) ∙ h

-- the hand of the first player of those that are left
pub hands-next : (old mid all : List PlainHand) (e : PlainHand × Result (Unit {0}) RecordFault) (rest : List (PlainHand × Result (Unit {0}) RecordFault)) →
    mid ≡ old ++ e.0 ∷ [] → old ++ map (λ d. d.0) (e ∷ rest) ≡ all → mid ++ map (λ d. d.0) rest ≡ all
hands-next old mid all e rest m h = ap (λ t. t ++ map (λ d. d.0) rest) m ∙ append_assoc old (e.0 ∷ []) (map (λ d. d.0) rest) ∙ h

all-next : (rest : List (PlainHand × Result (Unit {0}) RecordFault)) (e : PlainHand × Result (Unit {0}) RecordFault) → IsEnd e.1 → All (λ d. IsEnd d.1) rest → All (λ d. IsEnd d.1) (e ∷ rest)
all-next rest e end h zero d lt = end
all-next rest e end h (suc k) d lt = h k d (omega (arith, lt))

-- the first player's end beside those that are left
pub ends-all : (left rest : List (PlainHand × Result (Unit {0}) RecordFault)) (e : PlainHand × Result (Unit {0}) RecordFault) (G : Type 0) →
    left ≡ e ∷ rest → IsEnd e.1 → (All (λ d. IsEnd d.1) left → G) → All (λ d. IsEnd d.1) rest → G
ends-all left rest e G is end inv h = inv (rw is (all-next rest e end h))
