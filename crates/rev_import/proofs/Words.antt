-- The words that were written are the words that are read.
use Rattle.std.proofs.Common.{◌≡◌, ◌≢◌, ℕ, ◌+◌, ◌<◌, ◌≤◌, ◌==◌, ◌&&◌, not, true, false, inl, inr, List, [], ◌∷◌, ◌++◌, length, map, refl, sym, ◌∙◌, ap, arith, nat_lt, append_assoc, append-nil, Bool, take, get_or, Bor, eq-eqb}
use Rattle.std.proofs.lemmas.Bool.{ne_eqb}
use Rattle.std.proofs.lemmas.Bool.Decides.{eqb_tells, nat_tests}
use Rattle.std.proofs.lemmas.List.{take_more, map_push, get_or-map, length-map}
use Rattle.std.proofs.lemmas.List.Folds.{concat-append}
use Rattle.std.specs.List.{filter, slice_split, list_all, concat}
use Rattle.rev_script.specs.Number.{has, until, past}
use Rattle.rev_script.specs.Words.{words}
use Rattle.rev_script.specs.Script.{has_lf}
use Rattle.rev_script.proofs.Places.{split_has}
use Rattle.rev_script.proofs.Split.{words_none}
use Rattle.rev_script.proofs.Text.{has_lf-append}
use Rattle.rev_import.specs.Writing.{is_word, spaced}

pub both : (a b : Bool) → a && b ≡ true → (a ≡ true) × (b ≡ true)
both true b h = (refl, h)
both false b h = absurd (cc)

pub either : (a b : Bool) → a ≡ true → b ≡ true → a && b ≡ true
either a b p q = rw p q

above : (b x : ℕ) → b ≤ 32 → nat_lt 32 x ≡ true → x ≢ b
above b x l h e = grind (arith, nat_tests)

-- a byte that is not above 32 does not stand in a word
pub has-word : (b : ℕ) (w : List ℕ) → b ≤ 32 → list_all (nat_lt 32) w ≡ true → has b w ≡ false
has-word b [] l h = refl
has-word b (x ∷ xs) l h =
    let k = both (nat_lt 32 x) (list_all (nat_lt 32) xs) h in
    rw (ne_eqb x b (above b x l k.0)) (has-word b xs l k.1)

pub has_lf-word : (w : List ℕ) → list_all (nat_lt 32) w ≡ true → has_lf w ≡ false
has_lf-word [] h = refl
has_lf-word (x ∷ xs) h =
    let k = both (nat_lt 32 x) (list_all (nat_lt 32) xs) h in
    rw (ne_eqb x 10 (above 10 x (omega arith) k.0)) (has_lf-word xs k.1)

-- ---- what stands before and behind the first space

pub has-then : (b : ℕ) (w rest : List ℕ) → has b w ≡ false → has b (w ++ b ∷ rest) ≡ true
has-then b [] rest h = rw (eq-eqb b b refl) refl
has-then b (x ∷ xs) rest h = elim (eqb_tells x b) [
  | inl p ↦ rw p.0 refl
  | inr p ↦ rw p.0 (has-then b xs rest (rw p.0 at h))
]

pub until-then : (b : ℕ) (w rest : List ℕ) → has b w ≡ false → until b (w ++ b ∷ rest) ≡ w
until-then b [] rest h = rw (eq-eqb b b refl) refl
until-then b (x ∷ xs) rest h = elim (eqb_tells x b) [
  | inl p ↦ absurd (let q = rw p.0 at h in cc)
  | inr p ↦ rw p.0 (ap (λ t. x ∷ t) (until-then b xs rest (rw p.0 at h)))
]

pub past-then : (b : ℕ) (w rest : List ℕ) → has b w ≡ false → past b (w ++ b ∷ rest) ≡ rest
past-then b [] rest h = rw (eq-eqb b b refl) refl
past-then b (x ∷ xs) rest h = elim (eqb_tells x b) [
  | inl p ↦ absurd (let q = rw p.0 at h in cc)
  | inr p ↦ rw p.0 (past-then b xs rest (rw p.0 at h))
]

some_word : (w : List ℕ) → nat_lt 0 (length w) ≡ true → (length w == 0) ≡ false
some_word w h = grind (arith, nat_tests)

kept_first : (w : List ℕ) (ws : List (List ℕ)) → nat_lt 0 (length w) ≡ true → filter (λ v. not (length v == 0)) (w ∷ ws) ≡ w ∷ filter (λ v. not (length v == 0)) ws
kept_first w ws h = rw (some_word w h) refl

-- a word and a space in front of others
words-cons : (w rest : List ℕ) → is_word w ≡ true → words (w ++ 32 ∷ rest) ≡ w ∷ words rest
words-cons w rest h =
    let k = both (nat_lt 0 (length w)) (list_all (nat_lt 32) w) h in
    let clean = has-word 32 w (omega arith) k.1 in
    ap (λ ws. filter (λ v. not (length v == 0)) ws) (split_has 32 (w ++ 32 ∷ rest) (has-then 32 w rest clean))
    ∙ ap (λ u. filter (λ v. not (length v == 0)) (u ∷ slice_split (λ x. x == 32) (past 32 (w ++ 32 ∷ rest)))) (until-then 32 w rest clean)
    ∙ ap (λ r. filter (λ v. not (length v == 0)) (w ∷ slice_split (λ x. x == 32) r)) (past-then 32 w rest clean)
    ∙ kept_first w (slice_split (λ x. x == 32) rest) k.0

words-one : (w : List ℕ) → is_word w ≡ true → words w ≡ w ∷ []
words-one w h =
    let k = both (nat_lt 0 (length w)) (list_all (nat_lt 32) w) h in
    words_none w (has-word 32 w (omega arith) k.1) ∙ rw (some_word w k.0) refl

pub words-spaced : (first : List ℕ) (rest : List (List ℕ)) → is_word first ≡ true → list_all is_word rest ≡ true → words (first ++ spaced rest) ≡ first ∷ rest
words-spaced first [] p q = ap words (append-nil first) ∙ words-one first p
words-spaced first (w ∷ ws) p q =
    let k = both (is_word w) (list_all is_word ws) q in
    words-cons first (w ++ spaced ws) p ∙ ap (λ t. first ∷ t) (words-spaced w ws k.0 k.1)

-- ---- the bytes of a line

pub has_lf-spaced : (ws : List (List ℕ)) → list_all is_word ws ≡ true → has_lf (spaced ws) ≡ false
has_lf-spaced [] q = refl
has_lf-spaced (w ∷ ws) q =
    let k = both (is_word w) (list_all is_word ws) q in
    let h = has_lf-word w (both (nat_lt 0 (length w)) (list_all (nat_lt 32) w) k.0).1 in
    has_lf-append w (spaced ws) h ∙ has_lf-spaced ws k.1

pub has_lf-line : (first : List ℕ) (rest : List (List ℕ)) → is_word first ≡ true → list_all is_word rest ≡ true → has_lf (first ++ spaced rest) ≡ false
has_lf-line first rest p q =
    has_lf-append first (spaced rest) (has_lf-word first (both (nat_lt 0 (length first)) (list_all (nat_lt 32) first) p).1) ∙ has_lf-spaced rest q

-- a word more
pub spaced_more : (ws : List (List ℕ)) (i : ℕ) → i < length ws → spaced (take (i + 1) ws) ≡ spaced (take i ws) ++ 32 ∷ get_or ws i []
spaced_more ws i h =
    ap spaced (take_more ws i [] h)
    ∙ ap concat (map_push (λ w. 32 ∷ w) (take i ws) (get_or ws i []))
    ∙ concat-append (map (λ w. 32 ∷ w) (take i ws)) ((32 ∷ get_or ws i []) ∷ [])
    ∙ ap (λ t. spaced (take i ws) ++ 32 ∷ t) (append-nil (get_or ws i []))

word_behind : (out first before old mid new word : List ℕ) → new ≡ mid ++ word → mid ≡ old ++ 32 ∷ [] → old ≡ out ++ (first ++ before) → new ≡ out ++ (first ++ (before ++ 32 ∷ word))
word_behind out first before old mid new word e1 e2 e3 = e1 ∙ ap (λ t. t ++ word) (e2 ∙ ap (λ t. t ++ 32 ∷ []) e3) ∙ simp append_assoc

-- a space and the next word behind what was written
pub next_behind : (out first : List ℕ) (rest : List (Bor (List ℕ))) (i : ℕ) (d : Bor (List ℕ)) (old mid new : List ℕ) → i < length rest →
    new ≡ mid ++ (get_or rest i d).now → mid ≡ old ++ 32 ∷ [] → old ≡ out ++ (first ++ spaced (take i (map (λ w. w.now) rest))) →
    new ≡ out ++ (first ++ spaced (take (i + 1) (map (λ w. w.now) rest)))
next_behind out first rest i d old mid new h e1 e2 e3 =
    let ws : List (List ℕ) = map (λ w. w.now) rest in
    let word : get_or ws i [] ≡ (get_or rest i d).now = get_or-map (λ w. w.now) rest i d [] h in
    let more = spaced_more ws i (omega (arith, length-map rest (λ (w : Bor (List ℕ)). w.now))) in
    word_behind out first (spaced (take i ws)) old mid new (get_or rest i d).now e1 e2 e3
    ∙ ap (λ t. out ++ (first ++ t)) (ap (λ w. spaced (take i ws) ++ 32 ∷ w) (sym word) ∙ sym more)
