-- What a page that can be lifted tells of its class's free list.
use Rattle.std.proofs.Common.{◌≡◌, ℕ, suc, zero, ◌+◌, ◌<◌, List, [], ◌∷◌, ◌++◌, length, get_or, set, inl, inr, refl, sym, ◌∙◌, ap, subst, arith, take, drop}
use Rattle.std.proofs.lemmas.Bool.{cases_lt}
use Rattle.std.proofs.lemmas.List.{get_or_past}
use Rattle.rev_model.specs.Chunk.{same_chunk}
use Rattle.rev_model.specs.Move.{falling, front}
use Rattle.rev_model.specs.declared.ChunkRef.{ChunkRef}
use Rattle.rev_model.specs.declared.Form.{Form}
use Rattle.rev_model.specs.declared.Form.TheVariants.{Fresh, Pool, Withdrawn}
use Rattle.rev_pages.specs.declared.places.FreeList.{FreeList}
use Rattle.rev_pages.specs.Tables.{FreeLink}
use Rattle.rev_pages.specs.State.{PagesState, free_of, with_free, without_last_page, with_page, IsClear, state_of, IsLinked, carved}
use Rattle.rev_pages.specs.Lays.{Fronts, CanLift, lifted}
use Rattle.rev_pages.proofs.Bridges.{not_in}
use Rattle.rev_pages.proofs.Carving.{front_clear}
use Rattle.rev_pages.proofs.Chains.{same_chunk_tells}

take_and_drop : {X : Type 0} (n : ℕ) (xs : List X) → take n xs ++ drop n xs ≡ xs
take_and_drop zero xs = refl
take_and_drop (suc n) [] = refl
take_and_drop (suc n) (x ∷ xs) = ap (λ ys. x ∷ ys) (take_and_drop n xs)

-- the list without its last
take-front : {X : Type 0} (n : ℕ) (xs : List X) → n + 1 ≡ length xs → take n xs ≡ front xs
take-front n [] e = absurd (omega (arith, e))
take-front zero (x ∷ []) e = refl
take-front (suc n) (x ∷ []) e = absurd (omega (arith, e))
take-front zero (x ∷ y ∷ ys) e = absurd (omega (arith, e))
take-front (suc n) (x ∷ y ∷ ys) e = ap (λ zs. x ∷ zs) (take-front n (y ∷ ys) (omega (arith, e)))

module _ (v : PagesState) (page p class n : ℕ) (at : p ≡ page) (owned : class ≡ get_or v.owner p 0) (count : n ≡ get_or v.slots page 0) where
  owner_is : class ≡ get_or v.owner page 0
  owner_is = owned ∙ ap (λ i. get_or v.owner i 0) at

  fronts : Fronts page v → take n (free_of v class) ≡ falling page n
  fronts h =
      ap (λ k. take k (free_of v class)) count
      ∙ (ap (λ k. take (get_or v.slots page 0) (free_of v k)) owner_is
      ∙ (h ∙ ap (falling page) (sym count)))

  pub lift_front : Fronts page v → free_of v class ≡ carved page n (drop n (free_of v class))
  lift_front h = sym (take_and_drop n (free_of v class)) ∙ ap (λ xs. xs ++ drop n (free_of v class)) (fronts h)

  -- a class whose list holds the page's chunks is one
  pub lift_class : 0 < get_or v.slots page 0 → Fronts page v → class < length v.free
  lift_class some h = elim (cases_lt class (length v.free)) [
    | inl l ↦ l
    | inr l ↦ absurd (nothing n (free_of v class) (get_or_past v.free class [] l) (let k = some in let c = count in omega (arith, k, c)) (fronts h))
  ]
    where
      nothing : (k : ℕ) (xs : List ChunkRef) → xs ≡ [] → 0 < k → take k xs ≡ falling page k → ⊥
      nothing zero xs e l t = omega (arith, l)
      nothing (suc k) [] e l t = cc
      nothing (suc k) (x ∷ xs) e l t = cc

  -- what is left where the last page goes
  pub lift_fresh : (s₁ s₂ : PagesState) (f : Form) → f ≡ Fresh → page + 1 ≡ length v.owner → s₁ ≡ with_free v class (drop n (free_of v class)) → s₂ ≡ without_last_page s₁ page
      → s₂ ≡ lifted page (get_or v.owner page 0) (get_or v.slots page 0) f v
  lift_fresh s₁ s₂ f is last a b =
      b ∙ (ap (λ w. without_last_page w page) a
      ∙ (ap (λ os. record { owner = os; free = set v.free class (drop n (free_of v class)); slots = set v.slots page 0 }) (take-front page v.owner last)
      ∙ (ap (λ k. lifted page k n Fresh v) owner_is
      ∙ (ap (λ k. lifted page (get_or v.owner page 0) k Fresh v) count
      ∙ ap (λ g. lifted page (get_or v.owner page 0) (get_or v.slots page 0) g v) (sym is)))))

  pub lift_pool : (s₁ s₂ : PagesState) (f : Form) → f ≡ Pool → s₁ ≡ with_free v class (drop n (free_of v class)) → s₂ ≡ with_page s₁ page 0 0
      → s₂ ≡ lifted page (get_or v.owner page 0) (get_or v.slots page 0) f v
  lift_pool s₁ s₂ f is a b =
      b ∙ (ap (λ w. with_page w page 0 0) a
      ∙ (ap (λ k. lifted page k n Pool v) owner_is
      ∙ (ap (λ k. lifted page (get_or v.owner page 0) k Pool v) count
      ∙ ap (λ g. lifted page (get_or v.owner page 0) (get_or v.slots page 0) g v) (sym is))))

  module _ (owners : List ℕ) (made : ℕ) (ends : List FreeLink) (links : List (List FreeLink)) (h : IsLinked owners made ends links) (e : state_of owners made ends links ≡ v) where
    pub lift_clear : (s₁ : PagesState) → 0 < get_or v.slots page 0 → Fronts page v → s₁ ≡ with_free v class (drop n (free_of v class)) → IsClear s₁ page
    lift_clear s₁ some f a =
        let c : FreeList = record { class = class } in
        subst (λ w. IsClear w page) (sym a) (front_clear owners made ends links h v e c page n (drop n (free_of v class)) (lift_front f) count (lift_class some f))

-- a withdrawn page's chunks are in no list
pub withdrawn_clear : (v : PagesState) (page : ℕ) (f : Form) → f ≡ Withdrawn → CanLift f page v → IsClear v page
withdrawn_clear v page f is h x u c m =
    not_in same_chunk same_chunk_tells x (free_of v c) ((subst (λ g. CanLift g page v) is h).1 x c u) m
