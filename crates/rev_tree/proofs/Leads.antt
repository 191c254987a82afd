-- The way to a branch, walked from the branch up.
use Rattle.std.proofs.Common.{◌≡◌, ℕ, Bool, cond, eqb, suc, zero, ◌-◌, ◌<◌, ◌≤◌, List, [], ◌∷◌, ◌++◌, length, reverse, take, drop, refl, ap, sym, ◌∙◌, arith, append_assoc, None, Some, true, false, eqb-true, eq-eqb, Option, ⊎_elim}
use Rattle.std.proofs.Math.Seq.{take-length, drop-length}
use Rattle.std.proofs.lemmas.List.{append-nil, length_push}
use Rattle.std.proofs.lemmas.Bool.Decides.{nat_tests}
use Rattle.std.specs.List.{refill}
use Rattle.std.specs.Bool.{◌==◌}
use Rattle.rev_tree.proofs.Finds.{less_or_same}
use Rattle.rev_tree.specs.Tree.{PlainBranch, count}
use Rattle.rev_tree.specs.Places.{with_place}
use Rattle.rev_tree.specs.Forks.{next_fork}
use Rattle.rev_tree.specs.Index.{PlainIndex, branch_of, leaving_of, then_up, ups, way_to}
use Rattle.rev_tree.specs.declared.junction.Junction.{Junction}
use Rattle.rev_tree.specs.declared.index.Leaving.{Leaving}

-- some of the junctions are gathered, and the others are those from branch b up
abbrev pub IsGathered : PlainIndex → ℕ → List Junction → ℕ → Type 0
IsGathered i first w b = w ++ ups (64 - length w) i b ≡ ups 64 i first

ups_next : (k : ℕ) (i : PlainIndex) (b : ℕ) (l : Leaving) → 0 < k → leaving_of i b ≡ Some l → ups k i b ≡ l.junction ∷ ups (k - 1) i l.branch
ups_next zero i b l h e = absurd (omega (arith, h))
ups_next (suc k) i b l h e = let n : suc k - 1 ≡ k = omega arith in ap (λ z. then_up z (ups k i)) e ∙ ap (λ z. l.junction ∷ ups z i l.branch) (sym n)

pub gather_next : (i : PlainIndex) (first : ℕ) (w v : List Junction) (b : ℕ) (l : Leaving) → length w < 64 → leaving_of i b ≡ Some l → v ≡ w ++ l.junction ∷ [] → IsGathered i first w b → IsGathered i first v l.branch
gather_next i first w v b l h e ev g =
    let n = length_push w l.junction in
    let m : 64 - length (w ++ l.junction ∷ []) ≡ 64 - length w - 1 = omega (arith, n) in
    ap (λ z. z ++ ups (64 - length z) i l.branch) ev
    ∙ append_assoc w (l.junction ∷ []) (ups (64 - length (w ++ l.junction ∷ [])) i l.branch)
    ∙ ap (λ z. w ++ l.junction ∷ ups z i l.branch) m
    ∙ ap (λ z. w ++ z) (sym (ups_next (64 - length w) i b l (omega (arith, h)) e))
    ∙ g

ups_none : (k : ℕ) (i : PlainIndex) (b : ℕ) → leaving_of i b ≡ None → ups k i b ≡ []
ups_none zero i b e = refl
ups_none (suc k) i b e = ap (λ z. then_up z (ups k i)) e

ups_full : (k : ℕ) (i : PlainIndex) (b : ℕ) → k ≡ 0 → ups k i b ≡ []
ups_full zero i b e = refl
ups_full (suc k) i b e = absurd (omega (arith, e))

gathered : (i : PlainIndex) (first : ℕ) (w : List Junction) (b : ℕ) → ups (64 - length w) i b ≡ [] → IsGathered i first w b → w ≡ ups 64 i first
gathered i first w b e g = sym (append-nil w) ∙ ap (λ z. w ++ z) (sym e) ∙ g

-- at the base branch, or where no more junctions go
pub gather_end : (i : PlainIndex) (first : ℕ) (w : List Junction) (b : ℕ) → leaving_of i b ≡ None → IsGathered i first w b → w ≡ ups 64 i first
gather_end i first w b e g = gathered i first w b (ups_none (64 - length w) i b e) g

pub gather_full : (i : PlainIndex) (first : ℕ) (w : List Junction) (b : ℕ) → 64 ≤ length w → IsGathered i first w b → w ≡ ups 64 i first
gather_full i first w b l g = gathered i first w b (ups_full (64 - length w) i b (omega (arith, l))) g

-- turned over in place, they are the way
refill_same : (xs ws : List Junction) → length ws ≡ length xs → refill (length xs) xs ws ≡ ws
refill_same xs ws h =
    ap (λ z. take (length xs) (ws ++ z)) (ap (λ z. drop z xs) h ∙ drop-length xs) ∙ ap (λ z. take (length xs) z) (append-nil ws) ∙ ap (λ z. take z ws) (sym h) ∙ take-length ws

pub turned_over : (i : PlainIndex) (n first : ℕ) (xs ys ws : List Junction) → first ≡ branch_of i n → ys ≡ xs → ws ≡ reverse ys → length ws ≡ length ys → xs ≡ ups 64 i first → refill (length xs) xs ws ≡ way_to i n
unfolding way_to
turned_over i n first xs ys ws ef ey ew l e =
    refill_same xs ws (l ∙ ap length ey) ∙ ew ∙ ap (λ z. reverse z) (ey ∙ e) ∙ ap (λ z. reverse (ups 64 i z)) ef

-- what the test for room says
pub is_less : (n m : ℕ) → false ≡ (n == m) → n ≤ m → n < m
is_less n m h l = ⊎_elim (λ z. z) (λ e. let t = eq-eqb n m e in cc) (less_or_same n m l)

pub is_same : (n m : ℕ) → true ≡ (n == m) → m ≤ n
is_same n m h = let e = eqb-true n m (sym h) in omega (arith, e)

-- whether a play forks, as the code asks the branch that it reached
eqb-apart : (n m : ℕ) → (n ≡ m → ⊥) → eqb n m ≡ false
eqb-apart n m h = grind (arith, nat_tests)

abbrev off_at : PlainBranch → ℕ → Option Junction
off_at b k = Some (record { taken = k; fork = count b.forks })

pub asked_along : (a b : PlainBranch) (k n : ℕ) → a ≡ with_place 0 b → n ≡ length a.run → k ≡ n → ◌≡◌ {A = Option Junction} None (next_fork b k)
asked_along a b k n e l h =
    let t : eqb k (length b.run) ≡ true = eq-eqb k (length b.run) (h ∙ l ∙ ap (λ (z : PlainBranch). length z.run) e) in
    sym (ap (λ z. cond z None (off_at b k)) t)

pub asked_off : (a b : PlainBranch) (k n m : ℕ) → a ≡ with_place 0 b → n ≡ length a.run → (k ≡ n → ⊥) → m ≡ count a.forks → ◌≡◌ {A = Option Junction} (Some (record { taken = k; fork = m })) (next_fork b k)
asked_off a b k n m e l h f =
    let t : eqb k (length b.run) ≡ false = eqb-apart k (length b.run) (λ z. h (z ∙ sym (l ∙ ap (λ (y : PlainBranch). length y.run) e))) in
    ap (λ z. let y : Junction = record { taken = k; fork = z } in Some y) (f ∙ ap (λ (z : PlainBranch). count z.forks) e) ∙ sym (ap (λ z. cond z None (off_at b k)) t)

-- what it says that a play does not fork, or where it does
not_some : {X : Type 0} (x : X) → Some x ≡ None → ⊥
not_some x e = cc

some_inj : {X : Type 0} (x y : X) → Some x ≡ Some y → x ≡ y
some_inj x y e = cc

pub next_along : (b : PlainBranch) (k : ℕ) → ◌≡◌ {A = Option Junction} None (next_fork b k) → k ≡ length b.run
next_along b k e = go (eqb k (length b.run)) refl e
  where
    go : (t : Bool) → eqb k (length b.run) ≡ t → None ≡ cond t None (off_at b k) → k ≡ length b.run
    go true s f = eqb-true k (length b.run) s
    go false s f = absurd (not_some _ (sym f))

pub next_off : (b : PlainBranch) (k : ℕ) (j : Junction) → Some j ≡ next_fork b k → (j ≡ record { taken = k; fork = count b.forks }) × (k ≡ length b.run → ⊥)
next_off b k j e = go (eqb k (length b.run)) refl e
  where
    go : (t : Bool) → eqb k (length b.run) ≡ t → Some j ≡ cond t None (off_at b k) → (j ≡ record { taken = k; fork = count b.forks }) × (k ≡ length b.run → ⊥)
    go true s f = absurd (not_some _ f)
    go false s f = (some_inj j _ f, λ h. let u = eq-eqb k (length b.run) h in cc)
