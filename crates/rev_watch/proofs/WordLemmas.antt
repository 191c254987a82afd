-- Where a byte stands first in a text, words, and the values of fields.
use Rattle.std.proofs.Common.{◌≡◌, ℕ, zero, suc, ◌+◌, ◌<◌, ◌≤◌, ◌==◌, nat_lt, Bool, true, false, cond, inl, inr, Option, None, Some, option_to_list, List, [], ◌∷◌, ◌++◌, length, map, take, drop, get_or, refl, sym, ◌∙◌, ap, arith, append_assoc, length-append}
use Rattle.std.proofs.lemmas.Bool.{eqb-true}
use Rattle.std.proofs.lemmas.Bool.Decides.{eqb_tells, leb_tells, nat_tests}
use Rattle.std.proofs.lemmas.List.Elements.{filter_map-append}
use Rattle.std.proofs.lemmas.List.{take_more, take_all, map-append, take-append-drop}
use Rattle.std.proofs.lemmas.List.Splits.{length-slice_split}
use Rattle.std.proofs.Common.{Ok, Err, is_some, MatchResult}
use Rattle.std.specs.Borrow.{Bor}
use Rattle.std.specs.List.{slice_split, filter_map, cons_option}
use Rattle.std.specs.Option.{option_copied, ok_or}
use Rattle.rev_watch.specs.Field.{name_of}
use Rattle.rev_watch.specs.Fields.{fields_of, optional_in, at_most_one}
use Rattle.rev_watch.specs.Settings.{stat_in, stat_name, stat_value, the_only, whole_lines, without_last}
use Rattle.rev_watch.specs.declared.fault.Field.{Field}
use Rattle.rev_watch.specs.declared.fault.LineFault.TheVariants.{TooManyFields, Twice}
use Rattle.rev_watch.specs.declared.settings.Stat.{Stat}
use Rattle.rev_watch.specs.declared.settings.StatFault.TheVariants as stat_faults
use borrow.Author.Tests.{eq-eqb}
use Rattle.memchr.specs.Find.{IsFirstByte, is_byte}
use Rattle.rev_script.specs.Number.{has, until, past}
use Rattle.rev_script.proofs.Places.{found_at, split_has, split_none}
use Rattle.rev_watch.specs.Words.{words, values, value_behind}

none_before : (b : ℕ) (xs : List ℕ) (i : ℕ) → ((k : ℕ) → k < i → get_or xs k 0 ≡ b → ⊥) → has b (take i xs) ≡ false
none_before b xs zero h = refl
none_before b [] (suc i) h = refl
none_before b (x ∷ xs) (suc i) h = elim (eqb_tells x b) [
  | inl p ↦ absurd (h 0 (omega arith) p.1)
  | inr p ↦ rw p.0 (none_before b xs i (λ k l e. h (suc k) (omega arith) e))
]

pub none_has : (b : ℕ) (xs : List ℕ) → ((k : ℕ) → k < length xs → get_or xs k 0 ≡ b → ⊥) → has b xs ≡ false
none_has b [] h = refl
none_has b (x ∷ xs) h = elim (eqb_tells x b) [
  | inl p ↦ absurd (h 0 (omega arith) p.1)
  | inr p ↦ rw p.0 (none_has b xs (λ k l e. h (suc k) (omega arith) e))
]

-- where the byte isn't there, all is before it and nothing behind
pub all_until : (b : ℕ) (xs : List ℕ) → has b xs ≡ false → until b xs ≡ xs
all_until b [] h = refl
all_until b (x ∷ xs) h = elim (eqb_tells x b) [
  | inl p ↦ absurd (let q = rw p.0 at h in cc)
  | inr p ↦ rw p.0 (ap (λ t. x ∷ t) (all_until b xs (rw p.0 at h)))
]

pub none_past : (b : ℕ) (xs : List ℕ) → has b xs ≡ false → past b xs ≡ []
none_past b [] h = refl
none_past b (x ∷ xs) h = elim (eqb_tells x b) [
  | inl p ↦ absurd (let q = rw p.0 at h in cc)
  | inr p ↦ rw p.0 (none_past b xs (rw p.0 at h))
]

-- what a search for a byte tells
pub cut_at : (b : ℕ) (xs : List ℕ) (i : ℕ) → IsFirstByte (is_byte b) xs (Some i) →
    (i < length xs) × (until b xs ≡ take i xs) × (has b xs ≡ true) × (past b xs ≡ drop (i + 1) xs)
cut_at b xs i h =
    let high : i < length xs = h.0.high in
    let none : has b (take i xs) ≡ false = none_before b xs i (λ k l e. h.0.before k (omega arith) l (eq-eqb _ _ e)) in
    let f = found_at b xs i none high (eqb-true _ _ h.1) in
    let t : nat_lt i (length xs) ≡ true = grind (arith, nat_tests) in
    (high, f.1, f.0 ∙ t, f.2)

pub uncut : (b : ℕ) (xs : List ℕ) → IsFirstByte (is_byte b) xs None → has b xs ≡ false
uncut b xs h = none_has b xs (λ k l e. h k (omega arith) l (eq-eqb _ _ e))

-- the text behind the first such byte is shorter
pub past-shorter : (b : ℕ) (xs : List ℕ) → has b xs ≡ true → length (past b xs) < length xs
past-shorter b [] h = absurd (cc)
past-shorter b (x ∷ xs) h = elim (eqb_tells x b) [
  | inl p ↦ rw p.0 (omega arith)
  | inr p ↦ let q = past-shorter b xs (rw p.0 at h) in rw p.0 (omega (arith, q))
]

-- ---- words

-- one word more, and the rest
pub words_more : (text rest word more : List ℕ) (ws : List (List ℕ)) → words text ≡ ws ++ words rest → has 32 rest ≡ true → word ≡ until 32 rest → more ≡ past 32 rest →
    words text ≡ (ws ++ word ∷ []) ++ words more
words_more text rest word more ws e h u p =
    e ∙ ap (λ t. ws ++ t) (split_has 32 rest h ∙ ap (λ w. w ∷ words (past 32 rest)) (sym u) ∙ ap (λ r. word ∷ words r) (sym p))
    ∙ sym (append_assoc ws (word ∷ []) (words more))

-- the last word
pub words_last : (text rest word : List ℕ) (ws : List (List ℕ)) → words text ≡ ws ++ words rest → has 32 rest ≡ false → word ≡ until 32 rest →
    words text ≡ ws ++ word ∷ []
words_last text rest word ws e h u =
    e ∙ ap (λ t. ws ++ t) (split_none 32 rest h ∙ ap (λ w. w ∷ []) (sym (all_until 32 rest h) ∙ sym u))

-- ---- values

pub values_more : (name : List ℕ) (ws : List (List ℕ)) (w : List ℕ) → values name (ws ++ w ∷ []) ≡ values name ws ++ option_to_list (value_behind name 61 w)
values_more name ws w = filter_map-append (value_behind name 61) ws (w ∷ []) ∙ ap (λ t. values name ws ++ t) (one (value_behind name 61 w))
  where
    one : (o : Option (List ℕ)) → filter_map (λ (u : List ℕ). o) (w ∷ []) ≡ option_to_list o
    one None = refl
    one (Some v) = refl

-- ---- what a cut says

cut_by : (b : Bool) (p v : List ℕ) → Some v ≡ cond b (Some p) None → (b ≡ true) × (v ≡ p)
cut_by true p v e = (refl, cc)
cut_by false p v e = absurd (cc)

uncut_by : (b : Bool) (p : List ℕ) → None ≡ cond b (Some p) None → b ≡ false
uncut_by true p e = absurd (cc)
uncut_by false p e = refl

pub cut-some : (b : ℕ) (xs : List ℕ) (r : Option (Bor (List ℕ))) (x : Bor (List ℕ)) → option_copied r ≡ cond (has b xs) (Some (past b xs)) None → r ≡ Some x →
    (has b xs ≡ true) × (x.now ≡ past b xs)
cut-some b xs r x e i = cut_by (has b xs) (past b xs) x.now (sym (ap option_copied i) ∙ e)

pub cut-none : (b : ℕ) (xs : List ℕ) (r : Option (Bor (List ℕ))) → option_copied r ≡ cond (has b xs) (Some (past b xs)) None → r ≡ None → has b xs ≡ false
cut-none b xs r e i = uncut_by (has b xs) (past b xs) (sym (ap option_copied i) ∙ e)

-- ---- the words of a text, gathered

pub too_many : (text rest : List ℕ) (ws : List (List ℕ)) → words text ≡ ws ++ words rest → length ws ≡ 32 → fields_of text ≡ Err TooManyFields
unfolding fields_of
too_many text rest ws e n =
    let some = length-slice_split (λ b. b == 32) rest in
    let size : length (words text) ≡ length ws + length (words rest) = ap length e ∙ length-append ws (words rest) in
    elim (leb_tells (length (words text)) 32) [
      | inl p ↦ absurd (omega (arith, p.1, size, some, n))
      | inr p ↦ rw p.0 refl
    ]

pub all_few : (text : List ℕ) (ws : List (List ℕ)) → words text ≡ ws → length ws ≤ 32 → fields_of text ≡ Ok ws
unfolding fields_of
all_few text ws e h =
    let size : length (words text) ≡ length ws = ap length e in
    elim (leb_tells (length (words text)) 32) [
      | inl p ↦ rw p.0 (ap (λ w. Ok w) e)
      | inr p ↦ absurd (omega (arith, p.1, size, h))
    ]

pub words_push : (text rest : List ℕ) (items pushed : List (Bor (List ℕ))) (w : Bor (List ℕ)) (more : List ℕ) → words text ≡ map (λ x. x.now) items ++ words rest →
    pushed ≡ items ++ w ∷ [] → has 32 rest ≡ true → w.now ≡ until 32 rest → more ≡ past 32 rest → words text ≡ map (λ x. x.now) pushed ++ words more
words_push text rest items pushed w more e push h u p =
    words_more text rest w.now more (map (λ x. x.now) items) e h u p
    ∙ ap (λ ws. ws ++ words more) (sym (ap (map (λ x. x.now)) push ∙ map-append (λ x. x.now) items (w ∷ [])))

pub words_end : (text rest : List ℕ) (items pushed : List (Bor (List ℕ))) (w : Bor (List ℕ)) → words text ≡ map (λ x. x.now) items ++ words rest →
    pushed ≡ items ++ w ∷ [] → has 32 rest ≡ false → w.now ≡ until 32 rest → words text ≡ map (λ x. x.now) pushed
words_end text rest items pushed w e push h u =
    words_last text rest w.now (map (λ x. x.now) items) e h u
    ∙ sym (ap (map (λ x. x.now)) push ∙ map-append (λ x. x.now) items (w ∷ []))

-- ---- the value of a field

pub next_value : (name nm : List ℕ) (fields : List (Bor (List ℕ))) (i : ℕ) (d : Bor (List ℕ)) (seen v : Option (List ℕ)) → i < length fields → nm ≡ name →
    values name (map (λ x. x.now) (take i fields)) ≡ option_to_list seen → v ≡ value_behind nm 61 (get_or fields i d).now →
    values name (map (λ x. x.now) (take (i + 1) fields)) ≡ option_to_list seen ++ option_to_list v
next_value name nm fields i d seen v h n s e =
    ap (λ t. values name (map (λ x. x.now) t)) (take_more fields i d h)
    ∙ ap (values name) (map-append (λ x. x.now) (take i fields) (get_or fields i d ∷ []))
    ∙ values_more name (map (λ x. x.now) (take i fields)) (get_or fields i d).now
    ∙ ap (λ t. t ++ option_to_list (value_behind name 61 (get_or fields i d).now)) s
    ∙ ap (λ o. option_to_list seen ++ option_to_list o) (sym (e ∙ ap (λ m. value_behind m 61 (get_or fields i d).now) n))

at_least_two : (field : Field) (x y : List ℕ) (more : List (List ℕ)) (vs : List (List ℕ)) → vs ≡ (x ∷ y ∷ []) ++ more → at_most_one field vs ≡ Err (Twice field)
at_least_two field x y more vs e = ap (at_most_one field) e

pub stands_twice : (field : Field) (nm : List ℕ) (fields : List (Bor (List ℕ))) (i : ℕ) (d : Bor (List ℕ)) (found r : Option (Bor (List ℕ))) (x : Bor (List ℕ)) → i < length fields → nm ≡ name_of field →
    values (name_of field) (map (λ x. x.now) (take i fields)) ≡ option_to_list (option_copied found) → option_copied r ≡ value_behind nm 61 (get_or fields i d).now →
    is_some found ≡ true → r ≡ Some x → optional_in field (map (λ x. x.now) fields) ≡ Err (Twice field)
unfolding optional_in
stands_twice field nm fields i d None r x h n s e f is = absurd (cc)
stands_twice field nm fields i d (Some y) r x h n s e f is =
    let name : List ℕ = name_of field in
    let front : values name (map (λ x. x.now) (take (i + 1) fields)) ≡ y.now ∷ x.now ∷ [] =
    next_value name nm fields i d (Some y.now) (option_copied r) h n s e ∙ ap (λ o. (y.now ∷ []) ++ option_to_list (option_copied o)) is in
    let all : values name (map (λ x. x.now) fields) ≡ (y.now ∷ x.now ∷ []) ++ values name (map (λ x. x.now) (drop (i + 1) fields)) =
    ap (λ t. values name (map (λ x. x.now) t)) (sym (take-append-drop (i + 1) fields))
    ∙ ap (values name) (map-append (λ x. x.now) (take (i + 1) fields) (drop (i + 1) fields))
    ∙ filter_map-append (value_behind name 61) (map (λ x. x.now) (take (i + 1) fields)) (map (λ x. x.now) (drop (i + 1) fields))
    ∙ ap (λ t. t ++ values name (map (λ x. x.now) (drop (i + 1) fields))) front in
    at_least_two field y.now x.now (values name (map (λ x. x.now) (drop (i + 1) fields))) (values name (map (λ x. x.now) fields)) all

-- the first value is kept
pub keeps_value : (name nm : List ℕ) (fields : List (Bor (List ℕ))) (i : ℕ) (d : Bor (List ℕ)) (found r new : Option (Bor (List ℕ))) (x : Bor (List ℕ)) → i < length fields → nm ≡ name →
    values name (map (λ x. x.now) (take i fields)) ≡ option_to_list (option_copied found) → option_copied r ≡ value_behind nm 61 (get_or fields i d).now →
    is_some found ≡ false → r ≡ Some x → new ≡ Some x → values name (map (λ x. x.now) (take (i + 1) fields)) ≡ option_to_list (option_copied new)
keeps_value name nm fields i d (Some y) r new x h n s e f is k = absurd (cc)
keeps_value name nm fields i d None r new x h n s e f is k =
    next_value name nm fields i d None (option_copied r) h n s e ∙ ap (λ o. option_to_list (option_copied o)) (is ∙ sym k)

-- no value here
pub keeps_none : (name nm : List ℕ) (fields : List (Bor (List ℕ))) (i : ℕ) (d : Bor (List ℕ)) (found r new : Option (Bor (List ℕ))) → i < length fields → nm ≡ name →
    values name (map (λ x. x.now) (take i fields)) ≡ option_to_list (option_copied found) → option_copied r ≡ value_behind nm 61 (get_or fields i d).now →
    r ≡ None → new ≡ found → values name (map (λ x. x.now) (take (i + 1) fields)) ≡ option_to_list (option_copied new)
keeps_none name nm fields i d found r new h n s e is k =
    next_value name nm fields i d (option_copied found) (option_copied r) h n s e
    ∙ ap (λ o. option_to_list (option_copied found) ++ option_to_list (option_copied o)) is
    ∙ end (option_copied found)
    ∙ ap (λ o. option_to_list (option_copied o)) (sym k)
  where
    end : (o : Option (List ℕ)) → option_to_list o ++ [] ≡ option_to_list o
    end None = refl
    end (Some v) = refl

only_one : (field : Field) (o : Option (List ℕ)) → at_most_one field (option_to_list o) ≡ Ok o
only_one field None = refl
only_one field (Some v) = refl

pub all_looked_at : (field : Field) (fields : List (Bor (List ℕ))) (i : ℕ) (found : Option (Bor (List ℕ))) → length fields ≤ i →
    values (name_of field) (map (λ x. x.now) (take i fields)) ≡ option_to_list (option_copied found) → optional_in field (map (λ x. x.now) fields) ≡ Ok (option_copied found)
unfolding optional_in
all_looked_at field fields i found h s =
    ap (λ t. at_most_one field (values (name_of field) (map (λ x. x.now) t))) (sym (take_all i fields h))
    ∙ ap (at_most_one field) s ∙ only_one field (option_copied found)

-- ---- the lines of a text

without-cons : (u : List ℕ) (s : List (List ℕ)) → 0 < length s → without_last (u ∷ s) ≡ u ∷ without_last s
without-cons u [] h = absurd (omega arith)
without-cons u (x ∷ xs) h = refl

pub lines_more : (rest : List ℕ) → has 10 rest ≡ true → whole_lines rest ≡ until 10 rest ∷ whole_lines (past 10 rest)
lines_more rest h =
    ap without_last (split_has 10 rest h)
    ∙ without-cons (until 10 rest) (slice_split (λ b. b == 10) (past 10 rest)) (omega (arith, length-slice_split (λ b. b == 10) (past 10 rest)))

pub lines_none : (rest : List ℕ) → has 10 rest ≡ false → whole_lines rest ≡ []
lines_none rest h = ap without_last (split_none 10 rest h)

-- ---- the value of a setting

pub next_stat : (name nm text rest line behind : List ℕ) (seen v : Option (List ℕ)) → nm ≡ name → has 10 rest ≡ true → line ≡ until 10 rest → behind ≡ past 10 rest →
    filter_map (stat_value name) (whole_lines text) ≡ option_to_list seen ++ filter_map (stat_value name) (whole_lines rest) → v ≡ stat_value nm line →
    filter_map (stat_value name) (whole_lines text) ≡ option_to_list seen ++ (option_to_list v ++ filter_map (stat_value name) (whole_lines behind))
next_stat name nm text rest line behind seen v n h l b s e =
    let f : List (List ℕ) → List (List ℕ) = filter_map (stat_value name) in
    let here : f (whole_lines rest) ≡ option_to_list v ++ f (whole_lines behind) =
    ap f (lines_more rest h) ∙ ap (λ u. f (u ∷ whole_lines (past 10 rest))) (sym l) ∙ ap (λ t. f (line ∷ whole_lines t)) (sym b)
    ∙ one (stat_value name line) (f (whole_lines behind)) ∙ ap (λ o. option_to_list o ++ f (whole_lines behind)) (sym (e ∙ ap (λ m. stat_value m line) n)) in
    s ∙ ap (λ t. option_to_list seen ++ t) here
  where
    one : (o : Option (List ℕ)) (vs : List (List ℕ)) → cons_option o vs ≡ option_to_list o ++ vs
    one None vs = refl
    one (Some w) vs = refl

pub stat_twice : (stat : Stat) (text : List ℕ) (found r : Option (Bor (List ℕ))) (x : Bor (List ℕ)) (more : List (List ℕ)) →
    filter_map (stat_value (stat_name stat)) (whole_lines text) ≡ option_to_list (option_copied found) ++ (option_to_list (option_copied r) ++ more) →
    is_some found ≡ true → r ≡ Some x → stat_in stat text ≡ Err (stat_faults.Twice stat)
unfolding stat_in
stat_twice stat text None r x more s f is = absurd (cc)
stat_twice stat text (Some y) r x more s f is =
    ap (the_only stat) (s ∙ ap (λ o. (y.now ∷ []) ++ (option_to_list (option_copied o) ++ more)) is)

pub stat_kept : (name text behind : List ℕ) (found r new : Option (Bor (List ℕ))) (x : Bor (List ℕ)) →
    filter_map (stat_value name) (whole_lines text) ≡ option_to_list (option_copied found) ++ (option_to_list (option_copied r) ++ filter_map (stat_value name) (whole_lines behind)) →
    is_some found ≡ false → r ≡ Some x → new ≡ Some x →
    filter_map (stat_value name) (whole_lines text) ≡ option_to_list (option_copied new) ++ filter_map (stat_value name) (whole_lines behind)
stat_kept name text behind (Some y) r new x s f is k = absurd (cc)
stat_kept name text behind None r new x s f is k = s ∙ ap (λ o. option_to_list (option_copied o) ++ filter_map (stat_value name) (whole_lines behind)) (is ∙ sym k)

pub stat_none : (name text behind : List ℕ) (found r : Option (Bor (List ℕ))) →
    filter_map (stat_value name) (whole_lines text) ≡ option_to_list (option_copied found) ++ (option_to_list (option_copied r) ++ filter_map (stat_value name) (whole_lines behind)) →
    r ≡ None → filter_map (stat_value name) (whole_lines text) ≡ option_to_list (option_copied found) ++ filter_map (stat_value name) (whole_lines behind)
stat_none name text behind found r s is =
    s ∙ ap (λ o. option_to_list (option_copied found) ++ (option_to_list (option_copied o) ++ filter_map (stat_value name) (whole_lines behind))) is

pub stat_end : (stat : Stat) (text rest : List ℕ) (found : Option (Bor (List ℕ))) →
    filter_map (stat_value (stat_name stat)) (whole_lines text) ≡ option_to_list (option_copied found) ++ filter_map (stat_value (stat_name stat)) (whole_lines rest) →
    has 10 rest ≡ false → MatchResult (ok_or found (stat_faults.Missing stat)) (λ v. stat_in stat text ≡ Ok v.now) (λ e. stat_in stat text ≡ Err e)
unfolding stat_in
stat_end stat text rest None s h = ap (the_only stat) (s ∙ ap (filter_map (stat_value (stat_name stat))) (lines_none rest h))
stat_end stat text rest (Some y) s h =
    ap (the_only stat) (s ∙ ap (λ ls. (y.now ∷ []) ++ filter_map (stat_value (stat_name stat)) ls) (lines_none rest h))
