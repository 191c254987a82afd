-- Reads and writes of cells by page and slot, at the pages that the code has.
use Rattle.std.proofs.Common.{replicate, ◌≡◌, ◌≢◌, ℕ, suc, zero, ◌<◌, Option, Some, None, IsSome, List, [], ◌∷◌, ◌++◌, length, get_or, set, slice_get, inl, inr, refl, sym, ◌∙◌, ap, subst, arith, map, get_or-set_same}
use Rattle.std.proofs.lemmas.List.{map-set, map-append, get_or-set_other, length-set, set-get_or, set_past}
use Rattle.std.proofs.lemmas.Bool.{cases_eq, cases_lt}
use Rattle.std.proofs.lemmas.Option.{slice_get_read}
use Rattle.rev_links.specs.Grids.{cells_of, cell_at, with_cell, away}

pub some_within : {X : Type 0} (xs : List X) (i : ℕ) → IsSome (slice_get xs i) → i < length xs
some_within [] i h = cc
some_within (x ∷ xs) zero h = omega arith
some_within (x ∷ xs) (suc i) h = let r = some_within xs i h in omega arith

pub some_page : {X : Type 0} (g : List (List X)) (p s : ℕ) → IsSome (cell_at g p s) → p < length g
some_page [] p s h = cc
some_page (x ∷ xs) zero s h = omega arith
some_page (x ∷ xs) (suc p) s h = let r = some_page xs p s h in omega arith

page_read : {V X : Type 0} (pages : List (Option V)) (f : V → List X) (p s : ℕ) (o : Option V) → o ≡ get_or pages p o → IsSome (cell_at (map (cells_of f) pages) p s)
    → get_or (map (cells_of f) pages) p [] ≡ cells_of f o
page_read [] f p s o e h = cc
page_read (x ∷ xs) f zero s o e h = ap (cells_of f) (sym e)
page_read (x ∷ xs) f (suc p) s o e h = page_read xs f p s o e h

module _ {V X : Type 0} (pages : List (Option V)) (f : V → List X) (g : List (List X)) (view_is : map (cells_of f) pages ≡ g) (p s : ℕ) (there : IsSome (cell_at g p s)) (o : Option V) (is : o ≡ get_or pages p o) (v : V) (some : o ≡ Some v) where
  page_is : get_or g p [] ≡ f v
  page_is =
      let r = page_read pages f p s o is (subst (λ k. IsSome (cell_at k p s)) (sym view_is) there) in
      ap (λ k. get_or k p []) (sym view_is) ∙ (r ∙ ap (cells_of f) some)

  pub within : s < length (f v)
  within = some_within (f v) s (subst (λ xs. IsSome (slice_get xs s)) page_is there)

  pub read : (x : X) → x ≡ get_or (f v) s x → cell_at g p s ≡ Some x
  read x e = ap (λ xs. slice_get xs s) page_is ∙ slice_get_read (f v) (length (f v)) s x refl within e

  pub written : (w : V) (x : X) → f w ≡ set (f v) s x → map (cells_of f) (set pages p (Some w)) ≡ with_cell g p s x
  written w x e =
      map-set (cells_of f) pages p (Some w)
      ∙ (ap (λ k. set k p (f w)) view_is ∙ ap (set g p) (e ∙ ap (λ xs. set xs s x) (sym page_is)))

pub away_more : {X : Type 0} (n : ℕ) → away {X = X} n ++ [] ∷ [] ≡ away (suc n)
away_more zero = refl
away_more (suc n) = ap (λ g. [] ∷ g) (away_more n)

pub pushed : {V X : Type 0} (pages : List (Option V)) (f : V → List X) (n : ℕ) → map (cells_of f) pages ≡ away n → map (cells_of f) (pages ++ None ∷ []) ≡ away (suc n)
pushed pages f n e = map-append (cells_of f) pages (None ∷ []) ∙ (ap (λ k. k ++ [] ∷ []) e ∙ away_more n)

-- ---- cells before and after a write
pub slice_get-set_same : {X : Type 0} (xs : List X) (i : ℕ) (v : X) → i < length xs → slice_get (set xs i v) i ≡ Some v
slice_get-set_same [] i v h = absurd (omega arith)
slice_get-set_same (x ∷ xs) zero v h = refl
slice_get-set_same (x ∷ xs) (suc i) v h = slice_get-set_same xs i v (omega arith)

pub slice_get-set_other : {X : Type 0} (xs : List X) (i j : ℕ) (v : X) → j ≢ i → slice_get (set xs i v) j ≡ slice_get xs j
slice_get-set_other [] i j v h = refl
slice_get-set_other (x ∷ xs) zero zero v h = absurd (h refl)
slice_get-set_other (x ∷ xs) zero (suc j) v h = refl
slice_get-set_other (x ∷ xs) (suc i) zero v h = refl
slice_get-set_other (x ∷ xs) (suc i) (suc j) v h = slice_get-set_other xs i j v (λ e. h (omega arith))

pub cell_written : {X : Type 0} (g : List (List X)) (p s : ℕ) (v : X) → IsSome (cell_at g p s) → cell_at (with_cell g p s v) p s ≡ Some v
cell_written g p s v h =
    ap (λ xs. slice_get xs s) (get_or-set_same g p (set (get_or g p []) s v) [] (some_page g p s h))
    ∙ slice_get-set_same (get_or g p []) s v (some_within (get_or g p []) s h)

pub cell_other : {X : Type 0} (g : List (List X)) (p s q t : ℕ) (v : X) → (q ≡ p → t ≢ s) → cell_at (with_cell g p s v) q t ≡ cell_at g q t
cell_other g p s q t v n = elim (cases_eq q p) [
  | inl e ↦ elim (cases_lt p (length g)) [
    | inl l ↦ subst (λ k. cell_at (with_cell g p s v) k t ≡ cell_at g k t) (sym e)
        (ap (λ xs. slice_get xs t) (get_or-set_same g p (set (get_or g p []) s v) [] l) ∙ slice_get-set_other (get_or g p []) s t v (n e))
    | inr l ↦ ap (λ k. cell_at k q t) (set_past g p (set (get_or g p []) s v) l)
  ]
  | inr e ↦ ap (λ xs. slice_get xs t) (get_or-set_other g p q (set (get_or g p []) s v) [] e)
]

cell_same : {X : Type 0} (g : List (List X)) (p s q t : ℕ) → q ≡ p → t ≡ s → cell_at g q t ≡ cell_at g p s
cell_same g p s q t a b = ap (λ n. cell_at g n t) a ∙ ap (λ n. cell_at g p n) b

-- what is seen of a cell, where a write leaves that
pub part_kept : {X Y : Type 0} (f : Option X → Y) (g : List (List X)) (p s q t : ℕ) (v w : X) → cell_at g p s ≡ Some v → f (Some w) ≡ f (Some v)
    → f (cell_at (with_cell g p s w) q t) ≡ f (cell_at g q t)
part_kept f g p s q t v w h e = elim (cases_eq q p) [
  | inl a ↦ elim (cases_eq t s) [
    | inl b ↦
        ap f (cell_same (with_cell g p s w) p s q t a b ∙ cell_written g p s w (subst IsSome (sym h) refl))
        ∙ (e ∙ sym (ap f (cell_same g p s q t a b ∙ h)))
    | inr n ↦ ap f (cell_other g p s q t w (λ _. n))
  ]
  | inr n ↦ ap f (cell_other g p s q t w (λ a. absurd (n a)))
]

pub size_of_page : {X : Type 0} (g : List (List X)) (p : ℕ) → get_or (map length g) p 0 ≡ length (get_or g p [])
size_of_page [] p = refl
size_of_page (x ∷ xs) zero = refl
size_of_page (x ∷ xs) (suc p) = size_of_page xs p

pub sizes_written : {X : Type 0} (g : List (List X)) (p s : ℕ) (v : X) → map length (with_cell g p s v) ≡ map length g
sizes_written g p s v =
    map-set length g p (set (get_or g p []) s v)
    ∙ (ap (set (map length g) p) (length-set (get_or g p []) s v ∙ sym (size_of_page g p)) ∙ set-get_or (map length g) p 0)

-- a cell is there where the page has the slot
pub cell_from_size : {X : Type 0} (g : List (List X)) (p s : ℕ) → s < get_or (map length g) p 0 → IsSome (cell_at g p s)
cell_from_size g p s h = go (get_or g p []) s (let e = size_of_page g p in omega arith)
  where
    go : {Y : Type 0} (xs : List Y) (i : ℕ) → i < length xs → IsSome (slice_get xs i)
    go [] i l = absurd (omega arith)
    go (y ∷ ys) zero l = refl
    go (y ∷ ys) (suc i) l = go ys i (omega arith)

pub size_from_cell : {X : Type 0} (g : List (List X)) (p s : ℕ) → IsSome (cell_at g p s) → s < get_or (map length g) p 0
size_from_cell g p s h =
    let l = some_within (get_or g p []) s h in
    let e = size_of_page g p in omega arith

-- the same, at the numbers that the code has
module _ {V X : Type 0} (pages : List (Option V)) (f : V → List X) (g : List (List X)) (view_is : map (cells_of f) pages ≡ g) (page slot p s : ℕ) (a : p ≡ page) (b : s ≡ slot) (there : IsSome (cell_at g page slot))
    (o : Option V) (is : o ≡ get_or pages p o) (v : V) (some : o ≡ Some v) where
  is_at : o ≡ get_or pages page o
  is_at = subst (λ n. o ≡ get_or pages n o) a is

  pub within_at : s < length (f v)
  within_at = let r = within pages f g view_is page slot there o is_at v some in omega arith

  pub read_at : (x : X) → x ≡ get_or (f v) s x → cell_at g page slot ≡ Some x
  read_at x h = read pages f g view_is page slot there o is_at v some x (subst (λ n. x ≡ get_or (f v) n x) b h)

  pub written_at : (w : V) (x : X) → f w ≡ set (f v) s x → map (cells_of f) (set pages p (Some w)) ≡ with_cell g page slot x
  written_at w x h =
      ap (λ n. map (cells_of f) (set pages n (Some w))) a
      ∙ written pages f g view_is page slot there o is_at v some w x (h ∙ ap (λ n. set (f v) n x) b)

-- ---- pages that are all away
pub sizes_away : (X : Type 0) (n : ℕ) → map length (away {X = X} n) ≡ replicate n 0
sizes_away X zero = refl
sizes_away X (suc n) = ap (λ ns. 0 ∷ ns) (sizes_away X n)

pub length_away : (X : Type 0) (n : ℕ) → length (away {X = X} n) ≡ n
length_away X zero = refl
length_away X (suc n) = let r : length (away {X = X} n) ≡ n = length_away X n in omega (arith, r)
