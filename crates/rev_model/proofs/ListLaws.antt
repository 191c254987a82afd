-- What leaves a list goes back behind what stood before it; what enters leaves the list as it was.
use Rattle.std.specs.Prelude.{Bool, true, false, List, [], ◌∷◌, Option, None, Some, ◌≡◌, refl}
use Rattle.std.proofs.Common.{sym, ◌∙◌, ap, inl, inr}
use Rattle.std.proofs.lemmas.Bool.{cases_Bool, false≢true, true≢false}
use Rattle.rev_model.specs.Lists.{has, distinct, without, before_from, before, behind, insert, has_after}

-- the test says exactly which are equal
pub record Tells {X : Type 0} (same : X → X → Bool) : Type 0 where
  pub exact : (x y : X) → same x y ≡ true → x ≡ y
  pub self : (x : X) → same x x ≡ true

module _ {X : Type 0} (same : X → X → Bool) (tells : Tells same) where
  differs : (x y : X) → same x y ≡ false → same y x ≡ false
  differs x y d = elim (cases_Bool (same y x)) [
    | inl e ↦ let self : same x y ≡ true = rw (tells.exact y x e) (tells.self x) in absurd (false≢true (sym d ∙ self))
    | inr e ↦ e
  ]

  -- what stands before x behind z is no y that is not there
  skip : (x y z : X) (zs L : List X) → has same y (z ∷ zs) ≡ false → insert same x (before_from same x (Some z) zs) (y ∷ L) ≡ y ∷ insert same x (before_from same x (Some z) zs) L
  skip x y z [] L gone = elim (cases_Bool (same y z)) [
    | inl e ↦ absurd (true≢false (rw e at gone))
    | inr e ↦ rw (differs y z e) refl
  ]
  skip x y z (u ∷ us) L gone = elim (cases_Bool (same y z)) [
    | inl e ↦ absurd (true≢false (rw e at gone))
    | inr e ↦ elim (cases_Bool (same x u)) [
      | inl f ↦ rw (f, differs y z e) refl
      | inr f ↦ rw f (skip x y u us L (rw e at gone))
    ]
  ]

  take_put_from : (x y : X) (ys : List X) → has same x ys ≡ true → distinct same (y ∷ ys) ≡ true → insert same x (before_from same x (Some y) ys) (y ∷ without same x ys) ≡ y ∷ ys
  take_put_from x y [] h d = absurd (false≢true h)
  take_put_from x y (z ∷ zs) h d = elim (cases_Bool (same x z)) [
    | inl e ↦ rw (e, tells.self y, tells.exact x z e) refl
    | inr e ↦ elim (cases_Bool (has same y (z ∷ zs))) [
      | inl f ↦ absurd (false≢true (rw f at d))
      | inr f ↦ rw e (skip x y z zs (z ∷ without same x zs) f ∙ ap (λ l. y ∷ l) (take_put_from x z zs (rw e at h) (rw f at d)))
    ]
  ]

  -- an entry that left goes back behind what stood before it
  pub put-take : (x : X) (ys : List X) → has same x ys ≡ true → distinct same ys ≡ true → insert same x (before same x ys) (without same x ys) ≡ ys
  put-take x [] h d = absurd (false≢true h)
  put-take x (y ∷ ys) h d = elim (cases_Bool (same x y)) [
    | inl e ↦ rw (e, tells.exact x y e) refl
    | inr e ↦ rw e (take_put_from x y ys (rw e at h) d)
  ]

  -- what entered leaves again, and stood where it was put
  not_same : (x y : X) (ys : List X) → has same x ys ≡ false → has same y ys ≡ true → same x y ≡ false
  not_same x y ys gone there = elim (cases_Bool (same x y)) [
    | inl e ↦ absurd (false≢true (sym gone ∙ rw (tells.exact x y e) there))
    | inr e ↦ e
  ]

  without-behind : (x y : X) (ys : List X) → has same x ys ≡ false → has same y ys ≡ true → without same x (behind same y x ys) ≡ ys
  without-behind x y [] gone there = absurd (false≢true there)
  without-behind x y (z ∷ zs) gone there = elim (cases_Bool (same x z)) [
    | inl e ↦ absurd (true≢false (rw e at gone))
    | inr e ↦ elim (cases_Bool (same y z)) [
      | inl f ↦ rw (f, e, tells.self x) refl
      | inr f ↦ rw (f, e) (ap (λ l. z ∷ l) (without-behind x y zs (rw e at gone) (rw f at there)))
    ]
  ]

  before-behind : (x y : X) (last : Option X) (ys : List X) → has same x ys ≡ false → has same y ys ≡ true → before_from same x last (behind same y x ys) ≡ Some y
  before-behind x y last [] gone there = absurd (false≢true there)
  before-behind x y last (z ∷ zs) gone there = elim (cases_Bool (same x z)) [
    | inl e ↦ absurd (true≢false (rw e at gone))
    | inr e ↦ elim (cases_Bool (same y z)) [
      | inl f ↦ rw (f, e, tells.self x) (ap Some (sym (tells.exact y z f)))
      | inr f ↦ rw (f, e) (before-behind x y (Some z) zs (rw e at gone) (rw f at there))
    ]
  ]

  has-behind : (x y : X) (ys : List X) → has same x (behind same y x ys) ≡ true
  has-behind x y [] = rw (tells.self x) refl
  has-behind x y (z ∷ zs) = elim (cases_Bool (same y z)) [
    | inl f ↦ rw f (elim (cases_Bool (same x z)) [ inl e ↦ rw e refl | inr e ↦ rw (e, tells.self x) refl ])
    | inr f ↦ rw f (elim (cases_Bool (same x z)) [ inl e ↦ rw e refl | inr e ↦ rw e (has-behind x y zs) ])
  ]

  pub without-insert : (x : X) (after : Option X) (ys : List X) → has same x ys ≡ false → has_after same after ys ≡ true → without same x (insert same x after ys) ≡ ys
  without-insert x None ys gone there = rw (tells.self x) refl
  without-insert x (Some y) ys gone there = without-behind x y ys gone there

  pub before-insert : (x : X) (after : Option X) (ys : List X) → has same x ys ≡ false → has_after same after ys ≡ true → before same x (insert same x after ys) ≡ after
  before-insert x None ys gone there = rw (tells.self x) refl
  before-insert x (Some y) ys gone there = before-behind x y None ys gone there

  pub has-insert : (x : X) (after : Option X) (ys : List X) → has same x (insert same x after ys) ≡ true
  has-insert x None ys = rw (tells.self x) refl
  has-insert x (Some y) ys = has-behind x y ys

  -- in a list where none stands twice, what left is not there, and what stood before it still is
  pub has-without : (x : X) (ys : List X) → distinct same ys ≡ true → has same x (without same x ys) ≡ false
  has-without x [] d = refl
  has-without x (y ∷ ys) d = elim (cases_Bool (has same y ys)) [
    | inl f ↦ absurd (false≢true (rw f at d))
    | inr f ↦ elim (cases_Bool (same x y)) [
      | inl e ↦ rw (e, tells.exact x y e) f
      | inr e ↦ rw (e, e) (has-without x ys (rw f at d))
    ]
  ]

  has_after-more : (a : Option X) (y : X) (ys : List X) → has_after same a ys ≡ true → has_after same a (y ∷ ys) ≡ true
  has_after-more None y ys h = refl
  has_after-more (Some x) y ys h = elim (cases_Bool (same x y)) [ inl e ↦ rw e refl | inr e ↦ rw e h ]

  has_after-from : (x y : X) (ys : List X) → has same x ys ≡ true → has_after same (before_from same x (Some y) ys) (y ∷ without same x ys) ≡ true
  has_after-from x y [] h = absurd (false≢true h)
  has_after-from x y (z ∷ zs) h = elim (cases_Bool (same x z)) [
    | inl e ↦ rw (e, tells.self y) refl
    | inr e ↦ rw e (has_after-more _ y _ (has_after-from x z zs (rw e at h)))
  ]

  pub has_after-before : (x : X) (ys : List X) → has same x ys ≡ true → has_after same (before same x ys) (without same x ys) ≡ true
  has_after-before x [] h = absurd (false≢true h)
  has_after-before x (y ∷ ys) h = elim (cases_Bool (same x y)) [
    | inl e ↦ rw e refl
    | inr e ↦ rw e (has_after-from x y ys (rw e at h))
  ]
