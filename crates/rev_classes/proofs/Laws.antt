-- What holds of the class sizes of each configuration within the limits.
use Rattle.std.specs.Prelude.{ℕ, zero, suc, ◌+◌, ◌-◌, ◌*◌, ◌/◌, ◌%◌, ◌<◌, ◌≤◌, ◌≡◌, Bool, true, false, cond, nat_lt, nat_le, List, [], ◌∷◌, length, slice_index, None, Some, refl}
use Rattle.std.specs.List.{position, position_from}
use Rattle.std.specs.Option.{option_map}
use Rattle.std.proofs.Common.{sym, ◌∙◌, ap, subst, inl, inr, arith, add-one}
use Rattle.std.proofs.lemmas.Bool.{cases_Bool, leb-true, leb-false, ltb-false}
use Rattle.std.proofs.lemmas.Bool.Decides.{leb_tells}
use Rattle.std.proofs.lemmas.Iterator.Adapters.{position_from-zero}
use Rattle.std.proofs.lemmas.Nat.{le-div}
use Rattle.std.proofs.lemmas.Grind.{common_steps}
use Rattle.std.proofs.Math.Nat.{div-lt_iff_lt-mul, div-le_of_le-mul, mul-le-mul_left, mul-le-mul_right}
use Rattle.rev_classes.specs.Sizes.{up8, unrounded, ends, sizes_from, most_classes, sizes_of, class_from}
use Rattle.rev_classes.specs.Limits.{is_page_size, is_growth_factor, class_sizes, fault_of}
use Rattle.rev_classes.specs.Table.{AreClassSizes}
use Rattle.rev_classes.specs.declared.Config.{Config}

-- numbers

pub up8-below : (n page : ℕ) → page % 8 ≡ 0 → n ≤ page → up8 n ≤ page
up8-below n page e h = omega arith

pub up8-above : (n : ℕ) → n ≤ up8 n
up8-above n = omega arith

pub grown-above : (n num den : ℕ) → 0 < den → den ≤ num → n ≤ n * num / den
grown-above n num den positive more = le-div n (n * num) den positive (mul-le-mul_left n more)

pub grown-below : (n num den : ℕ) → num ≤ 4 * den → n * num / den ≤ 4 * n
grown-below n num den less =
    let h : n * num ≤ n * (4 * den) = mul-le-mul_left n less in
    let e : n * (4 * den) ≡ den * (4 * n) = grind arith in
    div-le_of_le-mul den (omega (arith, h, e))

pub ends-false : (n page num den : ℕ) → den ≤ num → nat_le (page * den) (n * num) ≡ false → n ≤ page
ends-false n page num den more e = elim (leb_tells n page) [
  | inl h ↦ h.1
  | inr h ↦
      let a : page * den ≤ n * den = mul-le-mul_right den (omega (arith, h.1)) in
      let b : n * den ≤ n * num = mul-le-mul_left n more in
      let d : n * num < page * den = leb-false _ _ e in
      omega (arith, a, b, d)
]

-- lists

pub chosen : (P : List ℕ → Type 0) (b : Bool) (xs ys : List ℕ) → (b ≡ true → P xs) → (b ≡ false → P ys) → P (cond b xs ys)
chosen P true xs ys f g = f refl
chosen P false xs ys f g = g refl

abbrev pub AreAtLeast : ℕ → List ℕ → Type 0
AreAtLeast b xs = (k : ℕ) → k < length xs → b ≤ slice_index xs k

abbrev pub AreAtMost : ℕ → List ℕ → Type 0
AreAtMost b xs = (k : ℕ) → k < length xs → slice_index xs k ≤ b

abbrev pub Rises : List ℕ → Type 0
Rises xs = (i j : ℕ) → i ≤ j → j < length xs → slice_index xs i ≤ slice_index xs j

pub at_least_cons : (b x : ℕ) (xs : List ℕ) → b ≤ x → AreAtLeast b xs → AreAtLeast b (x ∷ xs)
at_least_cons b x xs h t zero l = h
at_least_cons b x xs h t (suc k) l = t k (omega (arith, l))

pub at_most_cons : (b x : ℕ) (xs : List ℕ) → x ≤ b → AreAtMost b xs → AreAtMost b (x ∷ xs)
at_most_cons b x xs h t zero l = h
at_most_cons b x xs h t (suc k) l = t k (omega (arith, l))

pub rises_cons : (x : ℕ) (xs : List ℕ) → AreAtLeast x xs → Rises xs → Rises (x ∷ xs)
rises_cons x xs h t zero zero e l = omega arith
rises_cons x xs h t zero (suc j) e l = h j (omega (arith, l))
rises_cons x xs h t (suc i) zero e l = omega (arith, e)
rises_cons x xs h t (suc i) (suc j) e l = t i j (omega (arith, e)) (omega (arith, l))

pub last_cons : (x b : ℕ) (xs : List ℕ) → 0 < length xs → slice_index xs (length xs - 1) ≡ b → slice_index (x ∷ xs) (length (x ∷ xs) - 1) ≡ b
last_cons x b [] h e = omega (arith, h)
last_cons x b (y ∷ ys) h e =
    let place : length (x ∷ y ∷ ys) - 1 ≡ suc (length (y ∷ ys) - 1) = omega arith in
    subst (λ n. slice_index (x ∷ y ∷ ys) n ≡ b) (sym place) e

pub no_at_least : (b : ℕ) → AreAtLeast b []
no_at_least b k l = omega (arith, l)

pub no_at_most : (b : ℕ) → AreAtMost b []
no_at_most b k l = omega (arith, l)

pub no_rise : Rises []
no_rise i j e l = omega (arith, l)

-- the sizes

module _ (page num den : ℕ) (eights : page % 8 ≡ 0) (positive : 0 < den) (more : den ≤ num) where
  pub some : (most i : ℕ) → 0 < length (sizes_from page num den most i)
  some zero i = omega arith
  some (suc most) i = chosen (λ xs. 0 < length xs) (ends page num den i) _ _ (λ e. omega arith) (λ e. omega arith)

  pub above : (b most i : ℕ) → b ≤ page → b ≤ unrounded num den i → AreAtLeast b (sizes_from page num den most i)
  above b zero i p h = at_least_cons b page [] p (no_at_least b)
  above b (suc most) i p h =
      let up : unrounded num den i ≤ up8 (unrounded num den i) = up8-above _ in
      let grown : up8 (unrounded num den i) ≤ unrounded num den (suc i) = grown-above _ num den positive more in
      let tail : AreAtLeast b (sizes_from page num den most (i + 1)) = above b most (i + 1) p (rw add-one (omega (arith, h, up, grown))) in
      chosen (AreAtLeast b) (ends page num den i) _ _ (λ e. at_least_cons b page [] p (no_at_least b)) (λ e. at_least_cons b _ _ (omega (arith, h, up)) tail)

  pub below : (most i : ℕ) → AreAtMost page (sizes_from page num den most i)
  below zero i = at_most_cons page page [] (omega arith) (no_at_most page)
  below (suc most) i =
      chosen (AreAtMost page) (ends page num den i) _ _ (λ e. at_most_cons page page [] (omega arith) (no_at_most page))
      (λ e. at_most_cons page _ _ (up8-below _ page eights (ends-false _ page num den more e)) (below most (i + 1)))

  pub rising : (most i : ℕ) → Rises (sizes_from page num den most i)
  rising zero i = rises_cons page [] (no_at_least page) no_rise
  rising (suc most) i =
      let grown : up8 (unrounded num den i) ≤ unrounded num den (suc i) = grown-above _ num den positive more in
      chosen Rises (ends page num den i) _ _ (λ e. rises_cons page [] (no_at_least page) no_rise)
      (λ e. rises_cons _ _ (above (up8 (unrounded num den i)) most (i + 1) (up8-below _ page eights (ends-false _ page num den more e)) (rw add-one grown)) (rising most (i + 1)))

  pub last : (most i : ℕ) → slice_index (sizes_from page num den most i) (length (sizes_from page num den most i) - 1) ≡ page
  last zero i = refl
  last (suc most) i =
      chosen (λ xs. slice_index xs (length xs - 1) ≡ page) (ends page num den i) _ _ (λ e. refl)
      (λ e. last_cons _ page _ (some most (i + 1)) (last most (i + 1)))

-- the premises, as the limits give them

pub most_classes-is : most_classes ≡ 62
unfolding most_classes
most_classes-is = refl

pub record HasFactor (page num den : ℕ) : Type 0 where
  pub least : 256 ≤ page
  pub most : page ≤ 1048576
  pub eights : page % 8 ≡ 0
  pub positive : 0 < den
  pub more : den ≤ num
  pub less : num ≤ 4 * den
  pub num_most : num ≤ 1000
  pub den_most : den ≤ 1000

pub has_factor : (page num den : ℕ) → is_page_size page ≡ true → is_growth_factor num den ≡ true → HasFactor page num den
has_factor page num den p f = record {
  least = grind (arith, common_steps);
  most = grind (arith, common_steps);
  eights = grind (arith, common_steps);
  positive = grind (arith, common_steps);
  more = grind (arith, common_steps);
  less = grind (arith, common_steps);
  num_most = grind (arith, common_steps);
  den_most = grind (arith, common_steps);
}

pub are_sizes : (page num den : ℕ) → HasFactor page num den → length (sizes_of page num den) ≤ most_classes → AreClassSizes page (sizes_of page num den)
are_sizes page num den h few = record {
  some = omega (arith, some page num den h.eights h.positive h.more most_classes 0);
  few = omega (arith, few, most_classes-is);
  page_some = h.least;
  page_most = h.most;
  least = above page num den h.eights h.positive h.more 96 most_classes 0 (omega (arith, h.least)) (omega arith);
  most = below page num den h.eights h.positive h.more most_classes 0;
  rising = rising page num den h.eights h.positive h.more most_classes 0;
  last = last page num den h.eights h.positive h.more most_classes 0;
}

pub class_sizes-law : (c : Config) → fault_of c ≡ None → AreClassSizes c.page_size (class_sizes c)
class_sizes-law c e = elim (cases_Bool (is_page_size c.page_size)) [
  | inl p ↦ elim (cases_Bool (is_growth_factor c.num c.den)) [
    | inl f ↦ elim (cases_Bool (nat_lt most_classes (length (class_sizes c)))) [
      | inl many ↦ let h = rw (p, f, many) at e in cc
      | inr few ↦ are_sizes c.page_size c.num c.den (has_factor c.page_size c.num c.den p f) (omega (arith, ltb-false _ _ few))
    ]
    | inr f ↦ let h = rw (p, f) at e in cc
  ]
  | inr p ↦ let h = rw p at e in cc
]

-- the class that holds so many bytes

pub class_from-position : (c n : ℕ) (zs : List ℕ) → class_from (c + 1) zs n ≡ option_map (λ i. i + 1) (position_from (λ z. nat_le n z) c zs)
class_from-position c n [] = refl
class_from-position c n (z ∷ zs) = elim (cases_Bool (nat_le n z)) [
  | inl e ↦ rw e refl
  | inr e ↦ rw e (class_from-position (c + 1) n zs)
]

pub class_of-position : (n : ℕ) (zs : List ℕ) → class_from 1 zs n ≡ option_map (λ i. i + 1) (position (λ z. nat_le n z) zs)
class_of-position n zs = class_from-position 0 n zs ∙ ap (λ o. option_map (λ i. i + 1) o) (sym (position_from-zero (λ z. nat_le n z) zs))

-- what holds of the class that is found
pub record IsFound (c n : ℕ) (zs : List ℕ) (d : ℕ) : Type 0 where
  pub first : c ≤ d
  pub last : d < c + length zs
  pub fits : n ≤ slice_index zs (d - c)
  pub least : (k : ℕ) → k < d - c → slice_index zs k < n

least_cons : (m n z : ℕ) (zs : List ℕ) → z < n → ((k : ℕ) → k < m → slice_index zs k < n) → (k : ℕ) → k < suc m → slice_index (z ∷ zs) k < n
least_cons m n z zs less f zero l = less
least_cons m n z zs less f (suc k) l = f k (omega (arith, l))

found_later : (c n z : ℕ) (zs : List ℕ) (d : ℕ) → z < n → IsFound (c + 1) n zs d → IsFound c n (z ∷ zs) d
found_later c n z zs d less f =
    let place : d - c ≡ suc (d - (c + 1)) = omega (arith, f.first) in
    record {
      first = omega (arith, f.first);
      last = omega (arith, f.last);
      fits = rw place f.fits;
      least = rw place (least_cons (d - (c + 1)) n z zs less f.least);
    }

pub class_from-found : (c n : ℕ) (zs : List ℕ) (d : ℕ) → class_from c zs n ≡ Some d → IsFound c n zs d
class_from-found c n [] d e = cc
class_from-found c n (z ∷ zs) d e = elim (cases_Bool (nat_le n z)) [
  | inl h ↦
      let same : c ≡ d = let f = rw h at e in cc in
      let none : d - c ≡ 0 = omega (arith, same) in
      record {
        first = omega (arith, same);
        last = omega (arith, same);
        fits = rw none (leb-true _ _ h);
        least = λ k l. omega (arith, none, l);
      }
  | inr h ↦ found_later c n z zs d (leb-false _ _ h) (class_from-found (c + 1) n zs d (rw h at e))
]

pub class_from-none : (c n : ℕ) (zs : List ℕ) → class_from c zs n ≡ None → (k : ℕ) → k < length zs → slice_index zs k < n
class_from-none c n [] e k l = omega (arith, l)
class_from-none c n (z ∷ zs) e k l = elim (cases_Bool (nat_le n z)) [
  | inl h ↦ let f = rw h at e in cc
  | inr h ↦ least_cons (length zs) n z zs (leb-false _ _ h) (class_from-none (c + 1) n zs (rw h at e)) k l
]

-- how many chunks a page has, in each class
pub page-div-size : (page : ℕ) (sizes : List ℕ) → AreClassSizes page sizes → (i : ℕ) → i < length sizes → (1 ≤ page / slice_index sizes i) × (page / slice_index sizes i ≤ 10922)
page-div-size page sizes a i l =
    let least : 96 ≤ slice_index sizes i = a.least i l in
    let one : 1 ≤ page / slice_index sizes i = le-div 1 page _ (omega (arith, least)) (omega (arith, a.most i l)) in
    let some : 96 * 10923 ≤ slice_index sizes i * 10923 = mul-le-mul_right 10923 least in
    let positive : 0 < slice_index sizes i = omega (arith, least) in
    let under : page < 10923 * slice_index sizes i = omega (arith, some, a.page_most) in
    let fewer : page / slice_index sizes i < 10923 = (div-lt_iff_lt-mul {k = slice_index sizes i} {x = page} {y = 10923} positive).1 under in
    (one, omega (arith, fewer))

-- a worked table: pages of 1 KiB, and sizes that grow by a quarter
pub sizes_of-small : sizes_of 1024 5 4 ≡ 96 ∷ 120 ∷ 152 ∷ 192 ∷ 240 ∷ 304 ∷ 384 ∷ 480 ∷ 600 ∷ 752 ∷ 1024 ∷ []
unfolding most_classes
sizes_of-small = refl
