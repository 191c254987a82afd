-- What is mentioned stays so.
use Rattle.std.proofs.Common.{◌≡◌, ℕ, ◌+◌, ◌<◌, ◌≤◌, Bool, true, false, cond, List, [], ◌∷◌, ◌++◌, length, drop, refl, ap, sym, ◌∙◌, subst, arith, ◌⊎◌, inl, inr, ⊎_elim, Result, Ok, Err, OnOk, is_err}
use Rattle.std.specs.Prelude.{nat_eq, slice_index_or, ℕ, Bool, List, ◌++◌}
use Rattle.std.proofs.lemmas.Bool.{false≢true}
use Rattle.std.proofs.lemmas.Bool.Decides.{nat_tests}
use Rattle.std.proofs.lemmas.List.{drop_all, at_drop_more, append_assoc}
use Rattle.rev_tree.specs.declared.mention.Mention.{Mention}
use Rattle.rev_tree.specs.Mentions.{Holds, Within}
use Rattle.rev_model.specs.Lists.{has}
use Rattle.rev_model.specs.Move.{Move}
use Rattle.rev_inverse.specs.Record.{PlainChange, PlainRecord, IsWhole, moves_in}
use Rattle.rev_tree.specs.Steps.{State}
use Rattle.rev_tree.specs.Named.{named_by, named, stored_keys}
use Rattle.rev_tree.specs.Mentioned.{AreMentioned, Grows}
use Rattle.rev_model.specs.State.{State}
use Rattle.rev_model.specs.Actor.{Step}
use Rattle.rev_model.specs.declared.Outcome.{Outcome}

-- whether a step that answered o and left t, or its record's moves, names a key of this hash
abbrev pub is_named : ℕ → State → Step → Outcome → List Move → Bool
is_named h t e o ms = has nat_eq h (stored_keys e o ++ named t ms)

pub grows_none : (ms : List Mention) (n : ℕ) → Within ms n → Grows ms ms n
grows_none ms n w = record { kept = λ h m x. x; within = w }

pub grows_more : (a b c : List Mention) (n : ℕ) → Grows a b n → Grows b c n → Grows a c n
grows_more a b c n p q = record { kept = λ h m x. q.kept h m (p.kept h m x); within = q.within }

pub none_mentioned : (ms : List Mention) (n : ℕ) → AreMentioned ms [] n
none_mentioned ms n h e = absurd (false≢true e)

same_number : (a b : ℕ) → nat_eq a b ≡ true → b ≡ a
same_number a b e = grind (arith, nat_tests)

one_case : (ms : List Mention) (g n h : ℕ) → Holds ms g n → (b : Bool) → nat_eq h g ≡ b → cond b true false ≡ true → Holds ms h n
one_case ms g n h x true e f = subst (λ z. Holds ms z n) (same_number h g e) x
one_case ms g n h x false e f = absurd (false≢true f)

pub one_mentioned : (ms : List Mention) (g n : ℕ) → Holds ms g n → AreMentioned ms (g ∷ []) n
one_mentioned ms g n x h e = one_case ms g n h x (nat_eq h g) refl e

either_case : (h : ℕ) (xs ys : List ℕ) (b : Bool) → (has nat_eq h (xs ++ ys) ≡ true → (has nat_eq h xs ≡ true) ⊎ (has nat_eq h ys ≡ true)) → cond b true (has nat_eq h (xs ++ ys)) ≡ true → (cond b true (has nat_eq h xs) ≡ true) ⊎ (has nat_eq h ys ≡ true)
either_case h xs ys true g f = inl refl
either_case h xs ys false g f = g f

has_either : (h : ℕ) (xs ys : List ℕ) → has nat_eq h (xs ++ ys) ≡ true → (has nat_eq h xs ≡ true) ⊎ (has nat_eq h ys ≡ true)
has_either h [] ys e = inr e
has_either h (x ∷ xs) ys e = either_case h xs ys (nat_eq h x) (λ f. has_either h xs ys f) e

pub still_mentioned : (ms more : List Mention) (xs : List ℕ) (n : ℕ) → AreMentioned ms xs n → Grows ms more n → AreMentioned more xs n
still_mentioned ms more xs n a g h e = g.kept h n (a h e)

pub each_mentioned : (ms : List Mention) (xs ys : List ℕ) (n : ℕ) → AreMentioned ms xs n → AreMentioned ms ys n → AreMentioned ms (xs ++ ys) n
each_mentioned ms xs ys n a b h e = ⊎_elim (a h) (b h) (has_either h xs ys e)

pub both_mentioned : (ms more : List Mention) (xs ys : List ℕ) (n : ℕ) → AreMentioned ms xs n → Grows ms more n → AreMentioned more ys n → AreMentioned more (xs ++ ys) n
both_mentioned ms more xs ys n a g = each_mentioned more xs ys n (still_mentioned ms more xs n a g)

-- the moves by which an item leaves a chunk
pub left_mentioned : (ms : List Mention) (item there : List ℕ) (n : ℕ) → AreMentioned ms item n × AreMentioned ms there n → AreMentioned ms ((item ++ there) ++ (there ++ (there ++ []))) n
left_mentioned ms item there n a =
    each_mentioned ms (item ++ there) (there ++ (there ++ [])) n (each_mentioned ms item there n a.0 a.1)
    (each_mentioned ms there (there ++ []) n a.1 (each_mentioned ms there [] n a.1 (none_mentioned ms n)))

-- ---- what holds where a call answered Ok

pub ok_any : {T E : Type 0} → (r : Result T E) (P : Type 0) → P → OnOk r P
ok_any (Ok x) P p = p
ok_any (Err e) P p = tt

pub ok_value : {T E : Type 0} → (r : Result T E) (P : Type 0) → false ≡ is_err r → OnOk r P → P
ok_value (Ok x) P e p = p
ok_value (Err f) P e p = absurd (false≢true e)

named-append : (t : State) (ms more : List Move) → named t (ms ++ more) ≡ named t ms ++ named t more
named-append t [] more = refl
named-append t (m ∷ ms) more = ap (λ l. named_by t m ++ l) (named-append t ms more) ∙ sym (append_assoc (named_by t m) (named t ms) (named t more))

-- ---- along a record: what it names is mentioned, or still to come

abbrev pub IsSoFar : List Mention → State → List PlainChange → ℕ → ℕ → Type 0
IsSoFar now t gs i n = (h : ℕ) → has nat_eq h (named t (moves_in gs)) ≡ true → Holds now h n ⊎ (has nat_eq h (named t (moves_in (drop i gs))) ≡ true)

pub so_far_starts : (now : List Mention) (t : State) (gs : List PlainChange) (n : ℕ) → IsSoFar now t gs 0 n
so_far_starts now t gs n h e = inr e

so_far_next : (t : State) (gs : List PlainChange) (i h : ℕ) (g : PlainChange) → i < length gs → g ≡ slice_index_or gs i g → has nat_eq h (named t (moves_in (drop i gs))) ≡ has nat_eq h (named t g.moves ++ named t (moves_in (drop (i + 1) gs)))
so_far_next t gs i h g lt e =
    at_drop_more (λ l. has nat_eq h (named t (moves_in l))) gs i g lt
    ∙ ap (λ z. has nat_eq h (named t (moves_in (z ∷ drop (i + 1) gs)))) (sym e)
    ∙ ap (has nat_eq h) (named-append t g.moves (moves_in (drop (i + 1) gs)))

pub so_far_more : (now more : List Mention) (t : State) (gs : List PlainChange) (i n : ℕ) (g : PlainChange) → i < length gs → g ≡ slice_index_or gs i g → Grows now more n → AreMentioned more (named t g.moves) n → IsSoFar now t gs i n → IsSoFar more t gs (i + 1) n
so_far_more now more t gs i n g lt e grown a s h f =
    ⊎_elim (λ x. inl (grown.kept h n x))
    (λ x. ⊎_elim (λ y. inl (a h y)) (λ y. inr y) (has_either h (named t g.moves) (named t (moves_in (drop (i + 1) gs))) (sym (so_far_next t gs i h g lt e) ∙ x)))
    (s h f)

pub so_far_ends : (now : List Mention) (t : State) (r : PlainRecord) (i n : ℕ) → IsWhole r → length r.changes ≤ i → IsSoFar now t r.changes i n → AreMentioned now (named t r.moves) n
so_far_ends now t r i n whole le s h f =
    ⊎_elim (λ x. x)
    (λ x. absurd (false≢true (sym (ap (λ l. has nat_eq h (named t (moves_in l))) (drop_all i r.changes le)) ∙ x)))
    (s h (sym (ap (λ l. has nat_eq h (named t l)) whole.moves) ∙ f))
