-- One step more of a start.
use Rattle.std.proofs.Common.{◌≡◌, ℕ, ◌+◌, ◌<◌, ◌≤◌, Bool, true, false, cond, not, suc, zero, List, [], ◌∷◌, ◌++◌, length, Option, None, Some, refl, sym, ◌∙◌, ap, arith, length-append}
use Rattle.rev_tree.specs.Steps.{State, Step, next, outcome_of}
use Rattle.rev_tree.specs.Rows.{Row, row_of, row, at}
use Rattle.rev_tree.specs.Machine.{count_from, nesting_within, nesting, nesting_below, is_continued}
use Rattle.rev_tree.specs.Positions.{SessionState}
use Rattle.rev_tree.proofs.Growth.{row_of-last, falls_more}
use Rattle.rev_undotree.proofs.Mentioned.{at_more}
use Rattle.rev_tree.proofs.Rows.{at-step}
use Rattle.rev_plays.specs.Replies.{state_of, reply, played, after_step, if_played}
use Rattle.rev_plays.specs.Quiet.{quiet_of}
use Rattle.rev_plays.specs.Start.{IsShort, run_forward, from_state}
use Rattle.rev_plays.specs.declared.play.Reply.TheVariants.{Played}
use Rattle.rev_plays.specs.declared.quiet.Quiet.TheVariants as quiets
use Rattle.rev_plays.proofs.Plays.{reply-played}

-- ---- a step of a short session is played

one_at_most : (c : Bool) → cond c 0 1 ≤ 1
one_at_most true = omega arith
one_at_most false = omega arith

one_or_none : (c : Bool) → cond c 1 0 ≤ 1
one_or_none true = omega arith
one_or_none false = omega arith

counted_at_most : (q : Option Row) (f : Row → ℕ) (b : ℕ) → ((r : Row) → f r ≤ b) → count_from q f ≤ b
counted_at_most None f b h = omega arith
counted_at_most (Some r) f b h = h r

within_fuel : (k : ℕ) (rows : List (Option Row)) (n : ℕ) → nesting_within k rows n ≤ k
within_fuel zero rows n = omega arith
within_fuel (suc k) rows n =
    counted_at_most (row_of rows n) (λ r. nesting_within k rows r.parent + cond r.continues 0 1) (suc k)
    (λ r. let a = within_fuel k rows r.parent in let b = one_at_most r.continues in omega (arith, a, b))

-- a node nests at most as deep as its number says
below_number : (rows : List (Option Row)) (n : ℕ) → nesting_below rows n ≤ n + 1
unfolding nesting
below_number rows n = let a = within_fuel n rows n in let b = one_or_none (is_continued rows n) in omega (arith, a, b)

pub short_plays : (m : SessionState) (e : Step) → IsShort m → length m.rows < 64 → Played (outcome_of (state_of m) e) ≡ reply m e
short_plays m e h few = reply-played m e (λ full. omega (arith, full, few)) (λ deep. let a = below_number m.rows m.current in let w = h.within in omega (arith, a, w, few, deep.1))

pub short_after : (m : SessionState) (e : Step) → IsShort m → length m.rows < 64 → after_step m e ≡ played m e
short_after m e h few = sym (ap (λ r. if_played r (played m e) m) (short_plays m e h few))

pub short_quiet : (m : SessionState) (e : Step) → IsShort m → length m.rows < 64 → quiet_of (reply m e) ≡ quiets.Played
short_quiet m e h few = sym (ap quiet_of (short_plays m e h few))

pub played_short : (m : SessionState) (e : Step) → IsShort m → length m.rows < 64 → IsShort (played m e)
played_short m e h few =
    let r : Row = row m.current e (not (is_continued m.rows m.current)) in
    let size = length-append m.rows (Some r ∷ []) in
    record {
      few = omega (arith, size, few);
      within = omega (arith, size);
      falls = falls_more m.rows r h.falls h.within;
    }

pub played_state : (m : SessionState) (e : Step) → IsShort m → state_of (played m e) ≡ next (state_of m) e
played_state m e h =
    let r : Row = row m.current e (not (is_continued m.rows m.current)) in
    let more : List (Option Row) = m.rows ++ Some r ∷ [] in
    let number : length m.rows + 1 ≡ suc (length m.rows) = omega arith in
    let last : row_of more (length m.rows + 1) ≡ Some r = ap (row_of more) number ∙ row_of-last m.rows (Some r) in
    at-step m.root more (falls_more m.rows r h.falls h.within) (length m.rows + 1) r last
    ∙ ap (λ s. next s e) (at_more m.root m.rows (Some r) h.falls m.current h.within)

no_row : (n : ℕ) (r : Row) → row_of [] n ≡ Some r → ⊥
no_row zero r h = cc
no_row (suc n) r h = cc

-- a session that begins anew is short, and stands where it stood
pub fresh_short : (m : SessionState) (s : State) → m ≡ from_state s → IsShort m
fresh_short m s e = rw e (record { few = omega arith; within = omega arith; falls = λ n r h. absurd (no_row n r h) })

pub fresh_state : (m : SessionState) (s : State) → m ≡ from_state s → state_of m ≡ s
unfolding at
fresh_state m s e = ap state_of e

-- ---- steps, one behind another

pub forward-append : (s : State) (xs ys : List Step) → run_forward s (xs ++ ys) ≡ run_forward (run_forward s xs) ys
forward-append s [] ys = refl
forward-append s (x ∷ xs) ys = forward-append (next s x) xs ys
