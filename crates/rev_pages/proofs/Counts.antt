-- How many pages each class owns, where a page comes, goes or changes its owner.
use Rattle.std.proofs.Common.{◌≡◌, ◌≢◌, ℕ, suc, zero, ◌+◌, ◌-◌, ◌<◌, ◌≤◌, Bool, true, false, cond, ◌||◌, List, [], ◌∷◌, ◌++◌, length, get_or, set, inl, inr, refl, sym, ◌∙◌, ap, subst, arith, take, replicate}
use Rattle.std.specs.Prelude.{nat_eq, nat_lt}
use Rattle.std.specs.List.{count_by, list_any}
use Rattle.std.proofs.lemmas.Bool.{cases_eq, cases_lt, eq-eqb, ne_eqb, lt-ltb}
use Rattle.std.proofs.lemmas.List.{get_or-set_same, get_or-set_other, get_or_past, length-set, take_more, length-replicate}
use Rattle.std.proofs.lemmas.List.Sums.{sum_by-cons, sum_by-append, sum_by-set, sum_by_more_le, count_by-le-length}
use Rattle.rev_pages.specs.Tables.{FreeLink, SameShape}
use Rattle.rev_pages.specs.State.{AreCounted}

-- how many pages are of class c
abbrev of : ℕ → List ℕ → ℕ
of c owner = count_by (λ d. nat_eq d c) owner

-- what a page of class d counts for c
abbrev one : ℕ → ℕ → ℕ
one c d = cond (nat_eq d c) 1 0

one_same : (c d : ℕ) → d ≡ c → one c d ≡ 1
one_same c d e = ap (λ b. cond b 1 0) (eq-eqb d c e)

one_other : (c d : ℕ) → d ≢ c → one c d ≡ 0
one_other c d n = ap (λ b. cond b 1 0) (ne_eqb d c n)

-- what was read within a list is what stands there
pub read : (xs : List ℕ) (i x : ℕ) → i < length xs → x ≡ get_or xs i x → x ≡ get_or xs i 0
read [] i x l e = absurd (omega (arith, l))
read (y ∷ ys) zero x l e = e
read (y ∷ ys) (suc i) x l e = read ys i x (omega (arith, l)) e

-- a cell goes up by one
raised : (owned : List ℕ) (d c : ℕ) → d < length owned → get_or (set owned d (get_or owned d 0 + 1)) c 0 ≡ get_or owned c 0 + one c d
raised owned d c l = elim (cases_eq d c) [
  | inl e ↦ (let a = get_or-set_same owned d (get_or owned d 0 + 1) 0 l in let b = one_same c d e in
      subst (λ z. get_or (set owned d (get_or owned d 0 + 1)) z 0 ≡ get_or owned z 0 + one c d) e (omega arith))
  | inr n ↦ (let a = get_or-set_other owned d c (get_or owned d 0 + 1) 0 (λ e. n (sym e)) in let b = one_other c d n in omega arith)
]

-- a cell goes down by one
lowered : (owned : List ℕ) (d c : ℕ) → d < length owned → 0 < get_or owned d 0 → get_or (set owned d (get_or owned d 0 - 1)) c 0 + one c d ≡ get_or owned c 0
lowered owned d c l m = elim (cases_eq d c) [
  | inl e ↦ (let a = get_or-set_same owned d (get_or owned d 0 - 1) 0 l in let b = one_same c d e in
      subst (λ z. get_or (set owned d (get_or owned d 0 - 1)) z 0 + one c d ≡ get_or owned z 0) e (omega arith))
  | inr n ↦ (let a = get_or-set_other owned d c (get_or owned d 0 - 1) 0 (λ e. n (sym e)) in let b = one_other c d n in omega arith)
]

of_one : (c d : ℕ) → of c (d ∷ []) ≡ one c d
of_one c d = let a = sum_by-cons (one c) d [] in omega arith

module _ (owned : List ℕ) (classes : ℕ) (owner : List ℕ) (h : AreCounted owned classes owner) where
  -- a class owns no more pages than there are
  pub few_owned : (c : ℕ) → get_or owned c 0 ≤ length owner
  few_owned c = let e = h.each c in let l = count_by-le-length (λ d. nat_eq d c) owner in omega arith

  -- the owner of a page has a page, and so a cell
  pub some_owned : (p : ℕ) → p < length owner → 0 < get_or owned (get_or owner p 0) 0
  some_owned p l =
      let d = get_or owner p 0 in
      let a = sum_by_more_le (one d) owner p 0 l in
      let b = one_same d d refl in
      let e = h.each d in omega arith

  pub cell_owned : (p : ℕ) → p < length owner → get_or owner p 0 < length owned
  cell_owned p l = elim (cases_lt (get_or owner p 0) (length owned)) [
    | inl k ↦ k
    | inr k ↦ (let a = some_owned p l in let b = get_or_past owned (get_or owner p 0) 0 k in absurd (omega arith))
  ]

  -- a page comes
  pub counted_more : (c : ℕ) → c < length owned → AreCounted (set owned c (get_or owned c 0 + 1)) classes (owner ++ c ∷ [])
  counted_more c l = record {
    cells = length-set owned c (get_or owned c 0 + 1) ∙ h.cells;
    each = λ q. (let a = raised owned c q l in let b = sum_by-append (one q) owner (c ∷ []) in let d = of_one q c in let e = h.each q in omega arith);
  }

  -- a page goes to another class
  module _ (p c : ℕ) (there : p < length owner) (cell : c < length owned) where
    abbrev left : List ℕ
    left = set owned (get_or owner p 0) (get_or owned (get_or owner p 0) 0 - 1)

    cell_left : c < length left
    cell_left = let a = length-set owned (get_or owner p 0) (get_or owned (get_or owner p 0) 0 - 1) in omega arith

    -- with this one the class owns no more than there are
    pub few_left : get_or left c 0 + 1 ≤ length owner
    few_left =
        let a = lowered owned (get_or owner p 0) c (cell_owned p there) (some_owned p there) in
        let b = sum_by-set (one c) owner p c 0 there in
        let d = count_by-le-length (λ d. nat_eq d c) (set owner p c) in
        let n = length-set owner p c in
        let u = one_same c c refl in
        let e = h.each c in omega arith

    pub counted_set : AreCounted (set left c (get_or left c 0 + 1)) classes (set owner p c)
    counted_set = record {
      cells = length-set left c (get_or left c 0 + 1) ∙ (length-set owned (get_or owner p 0) (get_or owned (get_or owner p 0) 0 - 1) ∙ h.cells);
      each = λ q. (
          let a = lowered owned (get_or owner p 0) q (cell_owned p there) (some_owned p there) in
          let r = raised left c q cell_left in
          let b = sum_by-set (one q) owner p c 0 there in
          let e = h.each q in omega arith);
    }

-- the last page goes
pub counted_less : (owned : List ℕ) (classes k : ℕ) (owners : List ℕ) → k < length owners → AreCounted owned classes (take (k + 1) owners) → 0 < get_or owned (get_or owners k 0) 0 → get_or owners k 0 < length owned
    → AreCounted (set owned (get_or owners k 0) (get_or owned (get_or owners k 0) 0 - 1)) classes (take k owners)
counted_less owned classes k owners l h m n = record {
  cells = length-set owned (get_or owners k 0) (get_or owned (get_or owners k 0) 0 - 1) ∙ h.cells;
  each = λ q. (
      let d = get_or owners k 0 in
      let a = lowered owned d q n m in
      let t = ap (of q) (take_more owners k 0 l) in
      let b = sum_by-append (one q) (take k owners) (d ∷ []) in
      let e = h.each q in
      let o = of_one q d in omega arith);
}

-- no page
none_there : (c n : ℕ) → let none : List ℕ = replicate n 0 in get_or none c 0 ≡ 0
none_there c zero = refl
none_there zero (suc n) = refl
none_there (suc c) (suc n) = none_there c n

pub counted_none : (owned : List ℕ) (classes : ℕ) → owned ≡ replicate {A = ℕ} classes 0 → AreCounted owned classes []
counted_none owned classes e = record {
  cells = ap length e ∙ length-replicate classes 0;
  each = λ c. ap (λ ns. get_or ns c 0) e ∙ none_there c classes;
}

-- a class owns a page where its count is not 0
pub some_counted : (c : ℕ) (owner : List ℕ) → nat_lt 0 (of c owner) ≡ list_any (λ d. nat_eq d c) owner
some_counted c [] = refl
some_counted c (d ∷ ds) = go (nat_eq d c) refl (some_counted c ds)
  where
    go : (b : Bool) → nat_eq d c ≡ b → nat_lt 0 (of c ds) ≡ list_any (λ d. nat_eq d c) ds → nat_lt 0 (of c (d ∷ ds)) ≡ (b || list_any (λ d. nat_eq d c) ds)
    go true t ih = lt-ltb 0 (of c (d ∷ ds)) (let a = sum_by-cons (one c) d ds in let u : one c d ≡ 1 = ap (λ b. cond b 1 0) t in omega arith)
    go false t ih = ap (nat_lt 0) (let a = sum_by-cons (one c) d ds in let u : one c d ≡ 0 = ap (λ b. cond b 1 0) t in let w : of c (d ∷ ds) ≡ of c ds = omega arith in w) ∙ ih

-- a step of the table leaves the counts
pub counted_after : (owned owner : List ℕ) (ends : List FreeLink) (links : List (List FreeLink)) (ends' : List FreeLink) (links' : List (List FreeLink))
    → SameShape ends links ends' links' → AreCounted owned (length ends) owner → AreCounted owned (length ends') owner
counted_after owned owner ends links ends' links' s h = subst (λ k. AreCounted owned k owner) (sym s.same_ends) h
