-- A page's chunks put in front of a free list, one after another, and taken from there.
use Rattle.std.proofs.Common.{◌≡◌, ◌≢◌, ℕ, suc, zero, ◌+◌, ◌-◌, ◌<◌, ◌≤◌, true, false, cond, List, [], ◌∷◌, length, get_or, set, ◌⊎◌, inl, inr, refl, sym, ◌∙◌, ap, subst, arith, map}
use Rattle.std.proofs.lemmas.Bool.{cases_eq, cases_lt, eq-eqb}
use Rattle.std.proofs.lemmas.Bool.Decides.{nat_tests}
use Rattle.std.proofs.lemmas.List.{get_or-set_same, get_or-set_other, get_or_past, length-set, set-set, set-get_or}
use Rattle.rev_links.specs.declared.places.RingPlace.TheVariants.{End}
use Rattle.rev_links.specs.Rings.{In}
use Rattle.rev_links.proofs.Rings.{Distinct, one_end, distinct_path}
use Rattle.rev_model.specs.Chunk.{same_chunk, HasSlot}
use Rattle.rev_model.specs.Lists.{has, without}
use Rattle.rev_model.specs.declared.ChunkRef.{ChunkRef}
use Rattle.rev_pages.specs.declared.places.FreeList.{FreeList}
use Rattle.rev_pages.specs.Tables.{FreeLink, next_in, previous_in}
use Rattle.rev_pages.specs.State.{PagesState, free_of, with_free, IsClear, IsNowhere, chain, chains, state_of, IsLinked, carved}
use Rattle.rev_pages.proofs.Bridges.{has_in, not_has}
use Rattle.rev_pages.proofs.Chains.{same_chunk_tells, free_at, length-chains, slot_from_link, member_there}
use Rattle.rev_pages.proofs.Tables.{same_chunk_parts}

-- a state of which only one free list changed
pub only_free : (s s' : PagesState) (c : ℕ) (xs : List ChunkRef) → s'.free ≡ set s.free c xs → s'.owner ≡ s.owner → s'.slots ≡ s.slots → s' ≡ with_free s c xs
only_free s s' c xs f o n =
    ap (λ fs. record { owner = s'.owner; free = fs; slots = s'.slots }) f
    ∙ (ap (λ os. record { owner = os; free = set s.free c xs; slots = s'.slots }) o
    ∙ ap (λ ns. record { owner = s.owner; free = set s.free c xs; slots = ns }) n)

-- a slot of a page that has slots
pub slot_there : (slots : List ℕ) (x : ChunkRef) → x.slot < get_or slots x.page 0 → HasSlot slots x
slot_there slots x l = (elim (cases_lt x.page (length slots)) [ inl m ↦ m | inr m ↦ (let e = get_or_past slots x.page 0 m in absurd (omega (arith, l, e))) ], l)

-- ---- a page's chunks put in front, one after another
pub free_of_with : (s : PagesState) (c : ℕ) (xs : List ChunkRef) → c < length s.free → free_of (with_free s c xs) c ≡ xs
free_of_with s c xs m = get_or-set_same s.free c xs [] m

pub free_of_other : (s : PagesState) (c d : ℕ) (xs : List ChunkRef) → d ≢ c → free_of (with_free s c xs) d ≡ free_of s d
free_of_other s c d xs n = get_or-set_other s.free c d xs [] n

pub with_free_twice : (s : PagesState) (c : ℕ) (xs ys : List ChunkRef) → with_free (with_free s c xs) c ys ≡ with_free s c ys
with_free_twice s c xs ys = ap (λ fs. record s { free = fs }) (set-set s.free c xs ys)

pub class_with : (s s' : PagesState) (c : ℕ) (xs : List ChunkRef) → s' ≡ with_free s c xs → c < length s.free → c < length s'.free
class_with s s' c xs e m = subst (λ (w : PagesState). c < length w.free) (sym e) (let n = length-set s.free c xs in omega arith)

pub slot_with : (s s' : PagesState) (c : ℕ) (xs : List ChunkRef) (page slot n : ℕ) → s' ≡ with_free s c xs → n ≡ get_or s.slots page 0 → slot < n → slot < get_or s'.slots page 0
slot_with s s' c xs page slot n e z l = subst (λ (w : PagesState). slot < get_or w.slots page 0) (sym e) (omega arith)

In_carved : (page k : ℕ) (x : ChunkRef) (xs : List ChunkRef) → In x (carved page k xs) → ((x.page ≡ page) × (x.slot < k)) ⊎ In x xs
In_carved page zero x xs m = inr m
In_carved page (suc k) x xs (inl e) =
    inl (ap (λ (z : ChunkRef). z.page) (sym e), let w : k ≡ x.slot = ap (λ (z : ChunkRef). z.slot) e in omega arith)
In_carved page (suc k) x xs (inr m) = elim (In_carved page k x xs m) [ inl u ↦ inl (u.0, let w = u.1 in omega arith) | inr w ↦ inr w ]

pub carve_nowhere : (s s' : PagesState) (c : ℕ) (page k : ℕ) → c < length s.free → IsClear s page → s' ≡ with_free s c (carved page k (free_of s c)) → IsNowhere s' (record { page = page; slot = k })
carve_nowhere s s' c page k m clear e d i =
    let x : ChunkRef = record { page = page; slot = k } in
    let i' : In x (free_of (with_free s c (carved page k (free_of s c))) d) = subst (λ w. In x (free_of w d)) e i in
    elim (cases_eq d c) [
      | inl u ↦
          let j : In x (carved page k (free_of s c)) = subst (In x) (free_of_with s c (carved page k (free_of s c)) m) (subst (λ z. In x (free_of (with_free s c (carved page k (free_of s c))) z)) u i') in
          elim (In_carved page k x (free_of s c) j) [ inl w ↦ (let l = w.1 in absurd (omega arith)) | inr w ↦ clear x refl c w ]
      | inr n ↦ clear x refl d (subst (In x) (free_of_other s c d (carved page k (free_of s c)) n) i')
    ]

pub carve_more : (s s₁ s₂ : PagesState) (c : ℕ) (page k : ℕ) → c < length s.free → s₁ ≡ with_free s c (carved page k (free_of s c))
    → s₂ ≡ with_free s₁ c (record { page = page; slot = k } ∷ free_of s₁ c) → s₂ ≡ with_free s c (carved page (suc k) (free_of s c))
carve_more s s₁ s₂ c page k m e f =
    let x : ChunkRef = record { page = page; slot = k } in
    f ∙ (ap (λ w. with_free w c (x ∷ free_of w c)) e
    ∙ (ap (λ xs. with_free (with_free s c (carved page k (free_of s c))) c (x ∷ xs)) (free_of_with s c (carved page k (free_of s c)) m)
    ∙ with_free_twice s c (carved page k (free_of s c)) (x ∷ carved page k (free_of s c))))

-- the front chunk taken
pub uncarve_more : (s s₁ s₂ : PagesState) (c : ℕ) (page k : ℕ) (xs : List ChunkRef) → c < length s.free → s₁ ≡ with_free s c (carved page (suc k) xs)
    → s₂ ≡ with_free s₁ c (without same_chunk (record { page = page; slot = k }) (free_of s₁ c)) → s₂ ≡ with_free s c (carved page k xs)
uncarve_more s s₁ s₂ c page k xs m e f =
    let x : ChunkRef = record { page = page; slot = k } in
    f ∙ (ap (λ w. with_free w c (without same_chunk x (free_of w c))) e
    ∙ (ap (λ ys. with_free (with_free s c (carved page (suc k) xs)) c (without same_chunk x ys)) (free_of_with s c (carved page (suc k) xs) m)
    ∙ (ap (λ b. with_free (with_free s c (carved page (suc k) xs)) c (cond b (carved page k xs) (x ∷ without same_chunk x (carved page k xs)))) (same_itself x)
    ∙ with_free_twice s c (carved page (suc k) xs) (carved page k xs))))
  where
    same_itself : (x : ChunkRef) → same_chunk x x ≡ true
    same_itself x = let a = eq-eqb x.page x.page refl in let b = eq-eqb x.slot x.slot refl in grind (arith, nat_tests)

pub carved_front : (s s₁ : PagesState) (c : ℕ) (page k : ℕ) (xs : List ChunkRef) → c < length s.free → s₁ ≡ with_free s c (carved page (suc k) xs) → In (record { page = page; slot = k }) (free_of s₁ c)
carved_front s s₁ c page k xs m e =
    subst (λ w. In (record { page = page; slot = k }) (free_of w c)) (sym e) (subst (In (record { page = page; slot = k })) (sym (free_of_with s c (carved page (suc k) xs) m)) (inl refl))

pub with_free_same : (s : PagesState) (c : ℕ) → with_free s c (free_of s c) ≡ s
with_free_same s c = ap (λ fs. record s { free = fs }) (set-get_or s.free c [])

pub uncarve_step : (s s₁ s₂ : PagesState) (c : ℕ) (page n k j : ℕ) (xs : List ChunkRef) → c < length s.free → k < n → j ≡ n - 1 - k → s₁ ≡ with_free s c (carved page (n - k) xs)
    → s₂ ≡ with_free s₁ c (without same_chunk (record { page = page; slot = j }) (free_of s₁ c)) → s₂ ≡ with_free s c (carved page (n - (k + 1)) xs)
uncarve_step s s₁ s₂ c page n k j xs m l e h f =
    let a : n - k ≡ suc j = omega arith in
    let b : j ≡ n - (k + 1) = omega arith in
    uncarve_more s s₁ s₂ c page j xs m (h ∙ ap (λ i. with_free s c (carved page i xs)) a) f ∙ ap (λ i. with_free s c (carved page i xs)) b

pub uncarve_front : (s s₁ : PagesState) (c : ℕ) (page n k j : ℕ) (xs : List ChunkRef) → c < length s.free → k < n → j ≡ n - 1 - k → s₁ ≡ with_free s c (carved page (n - k) xs) → In (record { page = page; slot = j }) (free_of s₁ c)
uncarve_front s s₁ c page n k j xs m l e h =
    let a : n - k ≡ suc j = omega arith in
    carved_front s s₁ c page j xs m (h ∙ ap (λ i. with_free s c (carved page i xs)) a)

-- ---- a page's chunks that stand in front of a list stand nowhere else
carved_has : (page n : ℕ) (x : ChunkRef) (ys : List ChunkRef) → x.page ≡ page → x.slot < n → In x (carved page n ys)
carved_has page zero x ys u l = absurd (omega (arith, l))
carved_has page (suc n) x ys u l = elim (cases_eq x.slot n) [
  | inl q ↦ inl (same_chunk_parts (record { page = page; slot = n }) x (sym u) (sym q))
  | inr q ↦ inr (carved_has page n x ys u (omega arith))
]

carved_more : (page n : ℕ) (x : ChunkRef) (ys : List ChunkRef) → In x ys → In x (carved page n ys)
carved_more page zero x ys m = m
carved_more page (suc n) x ys m = inr (carved_more page n x ys m)

carved_once : (page n : ℕ) (x : ChunkRef) (ys : List ChunkRef) → Distinct (carved page n ys) → x.page ≡ page → x.slot < n → In x ys → ⊥
carved_once page zero x ys d u l m = absurd (omega (arith, l))
carved_once page (suc n) x ys d u l m = elim (cases_eq x.slot n) [
  | inl q ↦ d.0 (subst (λ z. In z (carved page n ys)) (same_chunk_parts x (record { page = page; slot = n }) u q) (carved_more page n x ys m))
  | inr q ↦ carved_once page n x ys d.1 u (omega arith) m
]

module _ (owners : List ℕ) (made : ℕ) (ends : List FreeLink) (links : List (List FreeLink)) (h : IsLinked owners made ends links) (v : PagesState) (e : state_of owners made ends links ≡ v)
    (c : FreeList) (page n' : ℕ) (ys : List ChunkRef) (front : free_of v c.class ≡ carved page n' ys) (count : n' ≡ get_or v.slots page 0) where
  list_is : (d : FreeList) → d.class < length ends → free_of v d.class ≡ chain ends links d
  list_is d l = ap (λ w. free_of w d.class) (sym e) ∙ free_at owners made ends links d l

  past_end : (d : FreeList) → length ends ≤ d.class → free_of v d.class ≡ []
  past_end d l = ap (λ w. free_of w d.class) (sym e) ∙ get_or_past (chains ends links) d.class [] (let k = length-chains ends links in omega arith)

  -- a chunk of the page that stands in a list has one of its links
  slot_below : (d : FreeList) (x : ChunkRef) → d.class < length ends → x.page ≡ page → In x (free_of v d.class) → x.slot < n'
  slot_below d x l u i =
      let s = slot_from_link ends links x (member_there ends links (End d) (chain ends links d) (End d) x (h.ring d l) (subst (In x) (list_is d l) i)) in
      let a : get_or (map length links) x.page 0 ≡ n' = ap (λ p. get_or (map length links) p 0) u ∙ (ap (λ (w : PagesState). get_or w.slots page 0) e ∙ sym count) in
      omega arith

  -- nor in another list
  one_list : (d : FreeList) (x : ChunkRef) → d.class < length ends → c.class < length ends → x.page ≡ page → In x (free_of v d.class) → d ≡ c
  one_list d x l m u i =
      one_end (next_in ends links) (previous_in ends links) (End d) (End c) (chain ends links d) (chain ends links c) d c x (h.ring d l) (h.ring c m)
      (subst (In x) (list_is d l) i)
      (subst (In x) (sym front ∙ list_is c m) (carved_has page n' x ys u (slot_below d x l u i)))

  -- nor behind them
  pub front_clear : c.class < length v.free → IsClear (with_free v c.class ys) page
  front_clear k x u n i =
      let d : FreeList = record { class = n } in
      let m : c.class < length ends = (let k' : c.class < length (chains ends links) = subst (λ (w : PagesState). c.class < length w.free) (sym e) k in let q = length-chains ends links in omega arith) in
      elim (cases_eq n c.class) [
        | inl q ↦
            let j : In x ys = subst (In x) (ap (λ z. free_of (with_free v c.class ys) z) q ∙ free_of_with v c.class ys k) i in
            let j' : In x (free_of v c.class) = subst (In x) (sym front) (carved_more page n' x ys j) in
            let dis : Distinct (carved page n' ys) = subst Distinct (sym (list_is c m) ∙ front) (distinct_path (next_in ends links) (previous_in ends links) (End c) (chain ends links c) c (h.ring c m)) in
            carved_once page n' x ys dis u (slot_below c x m u j') j
        | inr q ↦
            let j : In x (free_of v n) = subst (In x) (free_of_other v c.class n ys q) i in
            elim (cases_lt n (length ends)) [
              | inl l ↦ q (ap (λ (w : FreeList). w.class) (one_list d x l m u j))
              | inr l ↦ subst (In x) (past_end d l) j
            ]
      ]

-- ---- the same in the words of the contracts
pub carve_slot : (s s' : PagesState) (c : ℕ) (xs : List ChunkRef) (page slot n : ℕ) → s' ≡ with_free s c xs → n ≡ get_or s.slots page 0 → slot < n → HasSlot s'.slots (record { page = page; slot = slot })
carve_slot s s' c xs page slot n e z l = slot_there s'.slots (record { page = page; slot = slot }) (slot_with s s' c xs page slot n e z l)

pub carve_none : (s s' : PagesState) (c : ℕ) (page k : ℕ) → c < length s.free → IsClear s page → s' ≡ with_free s c (carved page k (free_of s c)) → (d : ℕ) → has same_chunk (record { page = page; slot = k }) (free_of s' d) ≡ false
carve_none s s' c page k m clear e d = not_has same_chunk same_chunk_tells (record { page = page; slot = k }) (free_of s' d) (carve_nowhere s s' c page k m clear e d)

pub carve_step : (s s₁ s₂ : PagesState) (c : ℕ) (page k : ℕ) → c < length s.free → s₁ ≡ with_free s c (carved page k (free_of s c))
    → s₂.free ≡ set s₁.free c (record { page = page; slot = k } ∷ free_of s₁ c) → s₂.owner ≡ s₁.owner → s₂.slots ≡ s₁.slots → s₂ ≡ with_free s c (carved page (k + 1) (free_of s c))
carve_step s s₁ s₂ c page k m e f o n =
    carve_more s s₁ s₂ c page k m e (only_free s₁ s₂ c _ f o n) ∙ ap (λ i. with_free s c (carved page i (free_of s c))) (let q : suc k ≡ k + 1 = omega arith in q)

pub uncarve_there : (s s₁ : PagesState) (c : ℕ) (page n k j : ℕ) (xs : List ChunkRef) → c < length s.free → k < n → j ≡ n - 1 - k → s₁ ≡ with_free s c (carved page (n - k) xs) → has same_chunk (record { page = page; slot = j }) (free_of s₁ c) ≡ true
uncarve_there s s₁ c page n k j xs m l e h = has_in same_chunk same_chunk_tells (record { page = page; slot = j }) (free_of s₁ c) (uncarve_front s s₁ c page n k j xs m l e h)

pub uncarve_next : (s s₁ s₂ : PagesState) (c : ℕ) (page n k j : ℕ) (xs : List ChunkRef) → c < length s.free → k < n → j ≡ n - 1 - k → s₁ ≡ with_free s c (carved page (n - k) xs)
    → s₂.free ≡ set s₁.free c (without same_chunk (record { page = page; slot = j }) (free_of s₁ c)) → s₂.owner ≡ s₁.owner → s₂.slots ≡ s₁.slots → s₂ ≡ with_free s c (carved page (n - (k + 1)) xs)
uncarve_next s s₁ s₂ c page n k j xs m l e h f o w = uncarve_step s s₁ s₂ c page n k j xs m l e h (only_free s₁ s₂ c _ f o w)

-- the whole list carved, in front of what stands there
pub uncarve_start : (s : PagesState) (c page n : ℕ) (xs : List ChunkRef) → free_of s c ≡ carved page n xs → s ≡ with_free s c (carved page (n - 0) xs)
uncarve_start s c page n xs e = sym (with_free_same s c) ∙ (ap (λ ys. with_free s c ys) e ∙ ap (λ i. with_free s c (carved page i xs)) (let q : n ≡ n - 0 = omega arith in q))
