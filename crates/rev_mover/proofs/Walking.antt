-- A free list read chunk by chunk, each behind the one before, until one is of another page.
use Rattle.std.proofs.Common.{slice_get, ◌≡◌, ℕ, ◌+◌, ◌≤◌, Bool, true, false, cond, nat_eq, List, [], ◌∷◌, Option, None, Some, refl, sym, eq-eqb, eqb-true, ◌∙◌, ap, arith, inl, inr}
use Rattle.std.proofs.lemmas.Bool.{cases_Bool}
use Rattle.rev_model.specs.Lists.{has, count}
use Rattle.rev_inverse.specs.Reading.{next_after}
use Rattle.rev_model.specs.Chunk.{same_chunk}
use Rattle.rev_model.proofs.Undo.{tells_chunk, count_in_table}
use Rattle.rev_model.specs.State.{State, free_of}
use Rattle.rev_model.specs.Sound.{Sound}
use Rattle.rev_model.specs.Actor.{spare}
use Rattle.rev_model.specs.declared.ChunkRef.{ChunkRef}

-- what stands behind an entry, or all where there is none
abbrev pub rest_after : {X : Type 0} → (X → X → Bool) → Option X → List X → List X
rest_after same None xs = xs
rest_after same (Some y) [] = []
rest_after same (Some y) (x ∷ xs) = cond (same y x) xs (rest_after same (Some y) xs)

next_after-rest : {X : Type 0} (same : X → X → Bool) (b : Option X) (xs : List X) → next_after same b xs ≡ slice_get (rest_after same b xs) 0
next_after-rest same None xs = refl
next_after-rest same (Some y) [] = refl
next_after-rest same (Some y) (x ∷ xs) = elim (cases_Bool (same y x)) [
  | inl e ↦ rw e refl
  | inr e ↦ rw e (next_after-rest same (Some y) xs)
]

-- the entry that is read next, with what is left behind it
head-rest : {X : Type 0} (xs : List X) (e : X) → slice_get xs 0 ≡ Some e → (r : List X) × (xs ≡ e ∷ r)
head-rest [] e h = absurd (cc)
head-rest (x ∷ xs) e h = (xs, let p : x ≡ e = cc in ap (λ z. z ∷ xs) p)

head-none : {X : Type 0} (xs : List X) → slice_get xs 0 ≡ None → xs ≡ []
head-none [] h = refl
head-none (x ∷ xs) h = absurd (cc)

module _ {X : Type 0} (same : X → X → Bool) (self : (x : X) → same x x ≡ true) where
  -- what is left was in the list
  within : (y : X) (xs : List X) (e : X) (r : List X) → rest_after same (Some y) xs ≡ e ∷ r → 1 ≤ count same e xs
  within y [] e r h = absurd (cc)
  within y (x ∷ xs) e r h = elim (cases_Bool (same y x)) [
    | inl t ↦
        let k : xs ≡ e ∷ r = rw t at h in
        let n : count same e xs ≡ 1 + count same e r = ap (count same e) k ∙ rw (self e) refl in
        omega (arith, n)
    | inr t ↦ let n = within y xs e r (rw t at h) in omega (arith, n)
  ]

  skips : (b : Bool) (xs ys : List X) (n : ℕ) → 1 ≤ n → cond b 1 0 + n ≤ 1 → cond b xs ys ≡ ys
  skips true xs ys n h k = absurd (omega (arith, h, k))
  skips false xs ys n h k = refl

  -- in a list where it stands once, what is left behind it
  rest-next : (b : Option X) (xs : List X) (e : X) (r : List X) → count same e xs ≤ 1 → rest_after same b xs ≡ e ∷ r → rest_after same (Some e) xs ≡ r
  rest-next None xs e r once h = rw h (rw (self e) refl)
  rest-next (Some y) [] e r once h = absurd (cc)
  rest-next (Some y) (x ∷ xs) e r once h = elim (cases_Bool (same y x)) [
    | inl t ↦
        let k : xs ≡ e ∷ r = rw t at h in
        let n : count same e xs ≡ 1 + count same e r = ap (count same e) k ∙ rw (self e) refl in
        skips (same e x) xs (rest_after same (Some e) xs) (count same e xs) (omega (arith, n)) once
        ∙ ap (rest_after same (Some e)) k ∙ rw (self e) refl
    | inr t ↦
        let w = within y xs e r (rw t at h) in
        skips (same e x) xs (rest_after same (Some e) xs) (count same e xs) w once
        ∙ rest-next (Some y) xs e r (omega (arith, once)) (rw t at h)
  ]

  -- it stands in the list
  rest-has : (b : Option X) (xs : List X) (e : X) (r : List X) → rest_after same b xs ≡ e ∷ r → has same e xs ≡ true
  rest-has None xs e r h = rw h (rw (self e) refl)
  rest-has (Some y) [] e r h = absurd (cc)
  rest-has (Some y) (x ∷ xs) e r h = elim (cases_Bool (same e x)) [
    | inl t ↦ rw t refl
    | inr t ↦ rw t (elim (cases_Bool (same y x)) [
      | inl u ↦ let k : xs ≡ e ∷ r = rw u at h in rw k (rw (self e) refl)
      | inr u ↦ rest-has (Some y) xs e r (rw u at h)
    ])
  ]

-- a chunk that is read, and what is left before and after it is
pub read_one : (b : Option ChunkRef) (l : List ChunkRef) (x : ChunkRef) → count same_chunk x l ≤ 1 → next_after same_chunk b l ≡ Some x → (r : List ChunkRef) × (rest_after same_chunk b l ≡ x ∷ r) × (rest_after same_chunk (Some x) l ≡ r) × (has same_chunk x l ≡ true)
read_one b l x once e =
    let w = head-rest (rest_after same_chunk b l) x (sym (next_after-rest same_chunk b l) ∙ e) in
    (w.0, w.1, rest-next same_chunk tells_chunk.self b l x w.0 once w.1, rest-has same_chunk tells_chunk.self b l x w.0 w.1)

pub read_none : (b : Option ChunkRef) (l : List ChunkRef) → next_after same_chunk b l ≡ None → rest_after same_chunk b l ≡ []
read_none b l e = head-none (rest_after same_chunk b l) (sym (next_after-rest same_chunk b l) ∙ e)

-- no chunk stands twice in a free list
pub free_once : (s : State) → Sound s → (c : ℕ) (x : ChunkRef) → count same_chunk x (free_of s c) ≤ 1
free_once s sound c x = omega (arith, count_in_table same_chunk tells_chunk x s.free c, sound.well.lists.once x)

-- a chunk of the page is passed over, and one of another page is the spare one
pub spare_skips : (p : ℕ) (x : ChunkRef) (xs : List ChunkRef) → x.page ≡ p → spare p (x ∷ xs) ≡ spare p xs
spare_skips p x xs e = rw (eq-eqb x.page p e) refl

pub spare_found : (p : ℕ) (x : ChunkRef) (xs : List ChunkRef) → (x.page ≡ p → ⊥) → spare p (x ∷ xs) ≡ Some x
spare_found p x xs ne = elim (cases_Bool (nat_eq x.page p)) [
  | inl e ↦ absurd (ne (eqb-true x.page p e))
  | inr e ↦ rw e refl
]

-- the spare chunk stands in the list
pub spare_there : (p : ℕ) (l : List ChunkRef) (y : ChunkRef) → spare p l ≡ Some y → has same_chunk y l ≡ true
spare_there p [] y e = absurd (cc)
spare_there p (x ∷ xs) y e = elim (cases_Bool (nat_eq x.page p)) [
  | inl f ↦
      let there : has same_chunk y xs ≡ true = spare_there p xs y (rw f at e) in
      elim (cases_Bool (same_chunk y x)) [ inl g ↦ rw g refl | inr g ↦ rw g there ]
  | inr f ↦
      let is : x ≡ y = some_inj x y (rw f at e) in
      rw (sym is) (rw (tells_chunk.self x) refl)
]
  where
    some_inj : (x y : ChunkRef) → Some x ≡ Some y → x ≡ y
    some_inj x y e = cc
