-- Counts of each class, with one row more.
use Rattle.std.proofs.Common.{◌≡◌, ◌≢◌, ℕ, zero, suc, ◌+◌, ◌-◌, ◌^◌, ◌<◌, ◌≤◌, Bool, true, false, cond, ◌&&◌, nat_eq, List, [], ◌∷◌, ◌++◌, Option, Some, None, map, length, length-take, take, set, get_or, slice_get, refl, sym, ◌∙◌, ap, subst, ⊎_elim, arith}
use Rattle.std.specs.List.{filter, count_by}
use Rattle.std.proofs.lemmas.Bool.{false≢true, cases_Bool, cases_eq, eq-eqb, eqb-true}
use Rattle.std.proofs.lemmas.Grind.{common_steps}
use Rattle.std.proofs.lemmas.List.{take_more, get_or-set_same, get_or-set_other}
use Rattle.std.proofs.lemmas.List.Sums.{sum_by-append, fold-append, count_by-le-length, length-filter}
use Rattle.std.proofs.lemmas.List.Sorted.{IsPermutation-refl}
use Rattle.rev_figures.specs.declared.by_class.LeftCounts.{LeftCounts}
use Rattle.rev_figures.specs.declared.by_class.StepCounts.{StepCounts}
use Rattle.rev_figures.specs.declared.path.Leaving.{Leaving}
use Rattle.rev_figures.specs.declared.path.PathStep.{PathStep}
use Rattle.rev_figures.specs.declared.path.StepKind.{StepKind}
use Rattle.rev_figures.specs.declared.path.StepKind.TheVariants as kind
use Rattle.rev_figures.specs.declared.tables.Which.{Which}
use Rattle.rev_figures.specs.declared.tables.Which.TheVariants.{By, AllEvicted, Unfetched, Asked}
use Rattle.rev_model.specs.declared.Cause.TheVariants.{Evicted, ReclaimedByPull, ReclaimedByCrawler, ReclaimedByHit, ReclaimedByMover, EvictedByMover, Deleted, DroppedByFailedSet}
use Rattle.rev_figures.specs.Tables.{kind_number, is_one, is_counted, is_step, count_left, count_steps, count_missed, count_misses, wait, waits, IsMedian}
use Rattle.rev_figures.specs.Classes.{more, plus, step_counts, with_step, left_counts, with_leaving}

more_one : (b : Bool) (n m : ℕ) → n ≤ m → m < 2 ^ 64 - 1 → more b n ≡ n + cond b 1 0
more_one true n m l s = grind (arith, common_steps)
more_one false n m l s = omega arith

module _ {X : Type 0} where
  -- one element more is counted, or not
  count_end : (p : X → Bool) (xs : List X) (x : X) → count_by p (xs ++ x ∷ []) ≡ count_by p xs + cond (p x) 1 0
  count_end p xs x = let e : count_by p (xs ++ x ∷ []) ≡ count_by p xs + (0 + cond (p x) 1 0) = sum_by-append (λ y. cond (p y) 1 0) xs (x ∷ []) in omega (arith, e)

  -- where one of two tests holds, the other one tells
  count_same : (p : X → Bool) (q b : Bool) (xs : List X) (x : X) → p x ≡ (b && q) → b ≡ true → length xs < 2 ^ 64 - 1 → more q (count_by p xs) ≡ count_by p (xs ++ x ∷ [])
  count_same p q true xs x e t s = more_one q (count_by p xs) (length xs) (count_by-le-length p xs) s ∙ ap (λ c. count_by p xs + cond c 1 0) (sym e) ∙ sym (count_end p xs x)
  count_same p q false xs x e t s = absurd (false≢true t)

  -- and where it does not, nothing more is counted
  count_other : (p : X → Bool) (q b : Bool) (xs : List X) (x : X) → p x ≡ (b && q) → b ≡ false → count_by p (xs ++ x ∷ []) ≡ count_by p xs
  count_other p q false xs x e t = let end : count_by p (xs ++ x ∷ []) ≡ count_by p xs + cond (p x) 1 0 = count_end p xs x in
      end ∙ ap (λ c. count_by p xs + cond c 1 0) e ∙ omega arith
  count_other p q true xs x e t = absurd (false≢true (sym t))

-- a table by number, of which the entry of the next element's number is counted anew
module _ {X N : Type 0} (F : ℕ → List X → N) (class : X → ℕ) (one : N → X → N) where
  table_more : ((xs : List X) (x : X) → length xs < 2 ^ 64 - 1 → one (F (class x) xs) x ≡ F (class x) (xs ++ x ∷ []))
      → ((xs : List X) (x : X) (c : ℕ) → c ≢ class x → F c (xs ++ x ∷ []) ≡ F c xs)
      → (items : List N) (xs : List X) (i : ℕ) (d0 : X) (at : ℕ) (old v : N) → i < length xs → length (take i xs) < 2 ^ 64 - 1 → at < 256 → at ≡ class (get_or xs i d0) → length items ≡ 256
      → old ≡ get_or items at old → v ≡ one old (get_or xs i d0)
      → ((c : ℕ) (d : N) → c < 256 → get_or items c d ≡ F c (take i xs))
      → (c : ℕ) (d : N) → c < 256 → get_or (set items at v) c d ≡ F c (take (i + 1) xs)
  table_more same other items xs i d0 at old v l short small ae wide oe ve before c d few =
      ⊎_elim
      (λ e. ap (λ k. get_or (set items at v) k d) e ∙ get_or-set_same items at v d (omega (arith, wide, small)) ∙ counted ∙ ap (λ k. F k (take i xs ++ x ∷ [])) (sym (e ∙ ae)))
      (λ n. get_or-set_other items at c v d n ∙ before c d few ∙ sym (other (take i xs) x c (λ e. n (e ∙ sym ae))))
      (cases_eq c at)
      ∙ ap (F c) (sym (take_more xs i d0 l))
    where
      x : X
      x = get_or xs i d0

      counted : v ≡ F (class x) (take i xs ++ x ∷ [])
      counted = ve ∙ ap (λ n. one n x) (oe ∙ before at old small ∙ ap (λ k. F k (take i xs)) ae) ∙ same (take i xs) x short

ne-eqb : (a b : ℕ) → a ≢ b → nat_eq a b ≡ false
ne-eqb a b n = ⊎_elim (λ t. absurd (n (eqb-true a b t))) (λ f. f) (cases_Bool (nat_eq a b))

-- a step more of a class
pub step_same : (ss : List PathStep) (s : PathStep) → length ss < 2 ^ 64 - 1 → with_step (step_counts s.class ss) s ≡ step_counts s.class (ss ++ s ∷ [])
step_same ss s short = rw (by kind.Stored, by kind.Hit) refl
  where
    by : (k : StepKind) → more (nat_eq (kind_number k) (kind_number s.kind)) (count_steps (Some s.class) k ss) ≡ count_steps (Some s.class) k (ss ++ s ∷ [])
    by k = count_same (is_step (Some s.class) k) (nat_eq (kind_number k) (kind_number s.kind)) (nat_eq s.class s.class) ss s refl (eq-eqb s.class s.class refl) short

-- a step of another class
pub step_other : (ss : List PathStep) (s : PathStep) (c : ℕ) → c ≢ s.class → step_counts c (ss ++ s ∷ []) ≡ step_counts c ss
step_other ss s c n = rw (by kind.Stored, by kind.Hit) refl
  where
    by : (k : StepKind) → count_steps (Some c) k (ss ++ s ∷ []) ≡ count_steps (Some c) k ss
    by k = count_other (is_step (Some c) k) (nat_eq (kind_number k) (kind_number s.kind)) (nat_eq c s.class) ss s refl (ne-eqb c s.class n)

misses_end : (c : ℕ) (ls : List Leaving) (l : Leaving) → count_misses c (ls ++ l ∷ []) ≡ count_missed c (count_misses c ls) l
misses_end c ls l = fold-append (count_missed c) 0 ls (l ∷ [])

-- a key more that left a class
pub left_same : (ls : List Leaving) (l : Leaving) → length ls < 2 ^ 64 - 1 → with_leaving (left_counts l.class ls) l ≡ left_counts l.class (ls ++ l ∷ [])
left_same ls l short =
    rw (by (By Evicted), by (By EvictedByMover), by (By ReclaimedByPull), by (By ReclaimedByCrawler), by (By ReclaimedByHit), by (By ReclaimedByMover), by (By Deleted), by (By DroppedByFailedSet), by AllEvicted, by Unfetched, by Asked, missed) refl
  where
    is : nat_eq l.class l.class ≡ true
    is = eq-eqb l.class l.class refl

    by : (w : Which) → more (is_one w l) (count_left (Some l.class) w ls) ≡ count_left (Some l.class) w (ls ++ l ∷ [])
    by w = count_same (is_counted (Some l.class) w) (is_one w l) (nat_eq l.class l.class) ls l refl is short

    missed : plus (count_misses l.class ls) l.asks ≡ count_misses l.class (ls ++ l ∷ [])
    missed = sym (misses_end l.class ls l ∙ ap (λ b. cond b (plus (count_misses l.class ls) l.asks) (count_misses l.class ls)) is)

-- a key that left another class
pub left_other : (ls : List Leaving) (l : Leaving) (c : ℕ) → c ≢ l.class → left_counts c (ls ++ l ∷ []) ≡ left_counts c ls
left_other ls l c n =
    rw (by (By Evicted), by (By EvictedByMover), by (By ReclaimedByPull), by (By ReclaimedByCrawler), by (By ReclaimedByHit), by (By ReclaimedByMover), by (By Deleted), by (By DroppedByFailedSet), by AllEvicted, by Unfetched, by Asked, missed) refl
  where
    is : nat_eq c l.class ≡ false
    is = ne-eqb c l.class n

    by : (w : Which) → count_left (Some c) w (ls ++ l ∷ []) ≡ count_left (Some c) w ls
    by w = count_other (is_counted (Some c) w) (is_one w l) (nat_eq c l.class) ls l refl is

    missed : count_misses c (ls ++ l ∷ []) ≡ count_misses c ls
    missed = misses_end c ls l ∙ ap (λ b. cond b (plus (count_misses c ls) l.asks) (count_misses c ls)) is

none_filtered : (xs : List Leaving) → length xs ≡ 0 → xs ≡ []
none_filtered [] e = refl
none_filtered (x ∷ xs) e = absurd (omega (arith, e))

median_none : IsMedian [] None
median_none = record { ordered = []; same = IsPermutation-refl []; sorted = grind (arith, common_steps); median = refl }

-- the median of no seconds
pub no_median : (c : Option ℕ) (w : Which) (ls : List Leaving) → count_left c w ls ≡ 0 → IsMedian (waits c w ls) None
no_median c w ls e = subst (λ xs. IsMedian (map (wait w) xs) None) (sym (none_filtered (filter (is_counted c w) ls) (length-filter (is_counted c w) ls ∙ e))) median_none

some_inj : {X : Type 0} {x y : X} → Some x ≡ Some y → x ≡ y
some_inj e = cc

-- a row more, for which holds what holds for the others by their places
pub rows_more : {X : Type 0} (P : ℕ → X → Type 0) (xs : List X) (y : X) → ((i : ℕ) (x : X) → slice_get xs i ≡ Some x → P i x) → P (length xs) y → (i : ℕ) (x : X) → slice_get (xs ++ y ∷ []) i ≡ Some x → P i x
rows_more P [] y h p zero x e = subst (P 0) (some_inj e) p
rows_more P [] y h p (suc i) x e = absurd (grind arith)
rows_more P (z ∷ zs) y h p zero x e = h zero x e
rows_more P (z ∷ zs) y h p (suc i) x e = rows_more (λ j. P (suc j)) zs y (λ j. h (suc j)) p i x e

pub steps_more : (items : List StepCounts) (ss : List PathStep) (i : ℕ) (d0 : PathStep) (at : ℕ) (old v : StepCounts) → i < length ss → length (take i ss) < 2 ^ 64 - 1 → at < 256 → at ≡ (get_or ss i d0).class → length items ≡ 256
    → old ≡ get_or items at old → v ≡ with_step old (get_or ss i d0)
    → ((c : ℕ) (d : StepCounts) → c < 256 → get_or items c d ≡ step_counts c (take i ss))
    → (c : ℕ) (d : StepCounts) → c < 256 → get_or (set items at v) c d ≡ step_counts c (take (i + 1) ss)
steps_more = table_more step_counts (λ s. s.class) with_step (λ ss s l. step_same ss s l) step_other

pub left_more : (items : List LeftCounts) (ls : List Leaving) (i : ℕ) (d0 : Leaving) (at : ℕ) (old v : LeftCounts) → i < length ls → length (take i ls) < 2 ^ 64 - 1 → at < 256 → at ≡ (get_or ls i d0).class → length items ≡ 256
    → old ≡ get_or items at old → v ≡ with_leaving old (get_or ls i d0)
    → ((c : ℕ) (d : LeftCounts) → c < 256 → get_or items c d ≡ left_counts c (take i ls))
    → (c : ℕ) (d : LeftCounts) → c < 256 → get_or (set items at v) c d ≡ left_counts c (take (i + 1) ls)
left_more = table_more left_counts (λ l. l.class) with_leaving (λ ls l s. left_same ls l s) left_other

-- the first i of a slice are fewer than a number of 64 bits can tell
pub few_first : {X : Type 0} (xs : List X) (i : ℕ) → i < length xs → length xs < 2 ^ 64 → length (take i xs) < 2 ^ 64 - 1
few_first xs i l f = let t = length-take i xs in omega (arith, t, l, f)
