-- How a play ends, by the limits of the tree.
use Rattle.std.proofs.Common.{◌≡◌, ◌∙◌, ap, sym, ℕ, ◌<◌, ◌&&◌, Bool, true, false, List, [], ◌∷◌, ◌++◌, length, nat_eq, nat_lt, refl, arith, append_assoc}
use Rattle.std.proofs.lemmas.List.{append-nil}
use Rattle.std.proofs.lemmas.Bool.Decides.{nat_tests}
use Rattle.rev_model.specs.Actor.{Step}
use Rattle.rev_tree.specs.Steps.{outcome_of}
use Rattle.rev_tree.specs.Machine.{nesting_below}
use Rattle.rev_tree.specs.Positions.{SessionState}
use Rattle.rev_plays.specs.Replies.{state_of, is_full, is_too_deep, reply, after_step, value_of, values, or_refused, played, if_played, after_gets}
use Rattle.rev_script.specs.Steps.{get}
use Rattle.rev_plays.specs.declared.play.Reply.{Reply}
use Rattle.rev_plays.specs.declared.play.Reply.TheVariants.{Played, TooManyNodes, TooDeep}

not_true : (b : Bool) → (b ≡ true → ⊥) → b ≡ false
not_true true h = absurd (h refl)
not_true false h = refl

both_true : (a b : Bool) → (a && b) ≡ true → (a ≡ true) × (b ≡ true)
both_true true b e = (refl, e)
both_true false b e = absurd (cc)

lt_true : (a b : ℕ) → nat_lt a b ≡ true → a < b
lt_true a b e = grind (arith, nat_tests)

eq_true : (a b : ℕ) → nat_eq a b ≡ true → a ≡ b
eq_true a b e = grind (arith, nat_tests)

pub reply-many : (m : SessionState) (e : Step) → length m.rows ≡ 1048576 → TooManyNodes ≡ reply m e
unfolding reply
reply-many m e h =
    let t : is_full m ≡ true = grind (arith, nat_tests) in
    rw t refl

pub reply-deep : (m : SessionState) (e : Step) → length m.rows < 1048576 → 64 < nesting_below m.rows m.current → TooDeep ≡ reply m e
unfolding reply
reply-deep m e h d =
    let t : is_full m ≡ false = grind (arith, nat_tests) in
    let a : nat_lt (length m.rows) 1048576 ≡ true = grind (arith, nat_tests) in
    let b : nat_lt 64 (nesting_below m.rows m.current) ≡ true = grind (arith, nat_tests) in
    rw (t, a, b) refl

pub reply-played : (m : SessionState) (e : Step) → (length m.rows ≡ 1048576 → ⊥) → ((length m.rows < 1048576) × (64 < nesting_below m.rows m.current) → ⊥) → Played (outcome_of (state_of m) e) ≡ reply m e
unfolding reply
reply-played m e full deep =
    let t : is_full m ≡ false = not_true (is_full m) (λ h. full (eq_true (length m.rows) 1048576 h)) in
    let d : is_too_deep m ≡ false = not_true (is_too_deep m) (λ h.
    let w = both_true (nat_lt (length m.rows) 1048576) (nat_lt 64 (nesting_below m.rows m.current)) h in
    deep (lt_true (length m.rows) 1048576 w.0, lt_true 64 (nesting_below m.rows m.current) w.1)) in
    rw (t, d) refl

-- a refusal ends a line of gets: nothing was written for its key, and its text is all that the keys left give
pub refused_values : (w : Bool) (s : SessionState) (written now total text : List ℕ) (k : List ℕ) (rest left : List (List ℕ)) (r : Reply) → value_of w r (state_of s) k ≡ [] → ((later : List ℕ) → or_refused r later ≡ text) → r ≡ reply s (get k) → now ≡ written ++ value_of w r (state_of s) k → left ≡ k ∷ rest → written ++ values w s left ≡ total → now ++ text ≡ total
refused_values w s written now total text k rest left r none tells is wrote keys all =
    let before : now ≡ written = wrote ∙ ap (λ (v : List ℕ). written ++ v) none ∙ append-nil written in
    let given : values w s left ≡ text =
    ap (values w s) keys ∙ ap (λ (x : Reply). or_refused x (value_of w x (state_of s) k ++ values w (after_step s (get k)) rest)) (sym is) ∙ tells _ in
    ap (λ (l : List ℕ). l ++ text) before ∙ ap (λ (l : List ℕ). written ++ l) (sym given) ∙ all

-- the session stays where a get was refused
pub refused_gets : (s now total : SessionState) (k : List ℕ) (rest left : List (List ℕ)) (r : Reply) → ((a b : SessionState) → if_played r a b ≡ b) → r ≡ reply s (get k) → now ≡ after_step s (get k) → left ≡ k ∷ rest → after_gets s left ≡ total → now ≡ total
refused_gets s now total k rest left r none is step keys all =
    let stays : (a : SessionState) → if_played (reply s (get k)) a s ≡ s = λ a. ap (λ (x : Reply). if_played x a s) (sym is) ∙ none a s in
    step ∙ stays (played s (get k)) ∙ sym (stays (after_gets (after_step s (get k)) rest)) ∙ ap (after_gets s) (sym keys) ∙ all

-- after a get that was not refused, the keys left give the rest of the text
pub played_values : (w : Bool) (s next : SessionState) (written now total : List ℕ) (k : List ℕ) (rest left : List (List ℕ)) (r : Reply) → ((later : List ℕ) → or_refused r later ≡ later) → r ≡ reply s (get k) → next ≡ after_step s (get k) → now ≡ written ++ value_of w r (state_of s) k → left ≡ k ∷ rest → written ++ values w s left ≡ total → now ++ values w next rest ≡ total
played_values w s next written now total k rest left r tells is step wrote keys all =
    let value = value_of w r (state_of s) k in
    let later = values w (after_step s (get k)) rest in
    let given : values w s left ≡ value ++ later =
    ap (values w s) keys ∙ ap (λ (x : Reply). or_refused x (value_of w x (state_of s) k ++ later)) (sym is) ∙ tells (value ++ later) in
    ap (λ (l : List ℕ). l ++ values w next rest) wrote ∙ ap (λ (m : SessionState). (written ++ value) ++ values w m rest) step ∙ append_assoc written value later
    ∙ ap (λ (l : List ℕ). written ++ l) (sym given) ∙ all

-- and the session that the line leaves
pub played_gets : (s next total : SessionState) (k : List ℕ) (rest left : List (List ℕ)) (r : Reply) → ((a b : SessionState) → if_played r a b ≡ a) → r ≡ reply s (get k) → next ≡ after_step s (get k) → left ≡ k ∷ rest → after_gets s left ≡ total → after_gets next rest ≡ total
played_gets s next total k rest left r goes is step keys all =
    let later = after_gets (after_step s (get k)) rest in
    let given : after_gets s left ≡ later = ap (after_gets s) keys ∙ ap (λ (x : Reply). if_played x later s) (sym is) ∙ goes later s in
    ap (λ (m : SessionState). after_gets m rest) step ∙ sym given ∙ all
