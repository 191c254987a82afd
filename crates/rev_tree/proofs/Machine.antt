-- A position and the machine of calls: which play continues, and how deep it nests.
use Rattle.std.proofs.Common.{◌≡◌, ℕ, suc, zero, ◌+◌, ◌<◌, ◌≤◌, Bool, true, false, cond, not, eqb, List, [], ◌∷◌, ◌++◌, length, refl, ap, sym, ◌∙◌, subst, arith, Option, Some, None, ◌⊎◌, inl, inr, ⊎_elim}
use Rattle.std.proofs.lemmas.List.{length_push}
use Rattle.std.proofs.lemmas.Bool.Decides.{nat_tests}
use Rattle.rev_tree.specs.Steps.{State}
use Rattle.rev_tree.specs.Tree.{PlainBranch, fork_at}
use Rattle.rev_tree.specs.Ways.{reach}
use Rattle.rev_tree.specs.Rows.{Row, row_of, row, RowsFall, number_at, rows_of}
use Rattle.rev_tree.specs.Positions.{Proper, Kept}
use Rattle.rev_tree.specs.Paths.{IsPath}
use Rattle.rev_tree.specs.States.{Context, after}
use Rattle.rev_tree.specs.Machine.{continues_from, is_continued, count_from, nesting_within, nesting, nesting_below}
use Rattle.rev_tree.proofs.Positions.{Proper-zero}
use Rattle.rev_tree.proofs.Finds.{less_or_same}
use Rattle.rev_tree.proofs.Spots.{Tree, Along, Off, step_of, row_along, row_fork, same_spot, row_spot, path_more, path_less, path_within, played_at}
use Rattle.rev_tree.specs.declared.junction.Junction.{Junction}

-- what a session keeps, of its nodes alone
pub kept_tree : (root t : State) (b : PlainBranch) (w : List Junction) (k issued : ℕ) → Kept root t b w k issued → Tree (rows_of issued b) b
kept_tree root t b w k issued h = record { falls = h.falls; known = h.known; fitted = h.fitted }

context_path : (s : State) (b : PlainBranch) (w : List Junction) (k : ℕ) → Context s b w → k ≤ length (reach b w).run → IsPath b w k
context_path s b [] k h l = l
context_path s b (p ∷ ps) k h l = (h.0, h.3, h.4, context_path (after s p.taken b.run) (fork_at b.forks p.fork) ps k h.5 l)

pub kept_path : (root t : State) (b : PlainBranch) (w : List Junction) (k issued : ℕ) → Kept root t b w k issued → IsPath b w k
kept_path root t b w k issued h = context_path root b w k h.stands.holds.context h.stands.holds.ends.0

row_deeper : (q : Option Row) (qs : List (Option Row)) (m : ℕ) (r : Row) → row_of qs m ≡ Some r → row_of (q ∷ qs) (suc m) ≡ Some r
row_deeper q qs zero r e = cc
row_deeper q qs (suc m) r e = e

eqb-is : (n m : ℕ) → n ≡ m → eqb n m ≡ true
eqb-is n m h = grind (arith, nat_tests)

pub eqb-eq : (n m : ℕ) → eqb n m ≡ true → n ≡ m
eqb-eq n m h = grind (arith, nat_tests)

bool_case : (c : Bool) → (c ≡ true) ⊎ (c ≡ false)
bool_case true = inl refl
bool_case false = inr refl

none_here : (q : Row) (n : ℕ) → (q.parent ≡ n → q.continues ≡ false) → cond (eqb q.parent n) q.continues false ≡ false
none_here q n h = ⊎_elim (λ e. ap (λ z. cond z q.continues false) e ∙ h (eqb-eq q.parent n e)) (λ e. ap (λ z. cond z q.continues false) e) (bool_case (eqb q.parent n))

cond-true : (c d : Bool) → d ≡ true → cond c true d ≡ true
cond-true true d h = refl
cond-true false d h = h

-- rows of a list, one by one
pub is_continued-none : (rows : List (Option Row)) (n : ℕ) → ((m : ℕ) (r : Row) → row_of rows m ≡ Some r → r.parent ≡ n → r.continues ≡ false) → is_continued rows n ≡ false
is_continued-none [] n h = refl
is_continued-none (None ∷ qs) n h = is_continued-none qs n (λ m r e. h (suc m) r (row_deeper None qs m r e))
is_continued-none (Some q ∷ qs) n h =
    ap (λ z. cond z true (is_continued qs n)) (none_here q n (λ e. h 1 q refl e)) ∙ is_continued-none qs n (λ m r e. h (suc m) r (row_deeper (Some q) qs m r e))

pub is_continued-some : (rows : List (Option Row)) (n m : ℕ) (r : Row) → row_of rows m ≡ Some r → r.parent ≡ n → r.continues ≡ true → is_continued rows n ≡ true
is_continued-some rows n zero r e p c = cc
is_continued-some [] n (suc m) r e p c = cc
is_continued-some (q ∷ qs) n (suc zero) r e p c =
    ap (λ z. cond (continues_from n z) true (is_continued qs n)) e ∙ ap (λ z. cond z true (is_continued qs n)) (ap (λ z. cond z r.continues false) (eqb-is r.parent n p) ∙ c)
is_continued-some (q ∷ qs) n (suc (suc m)) r e p c = cond-true (continues_from n q) _ (is_continued-some qs n (suc m) r e p c)

-- the children of the node at a position: the next of its run, and the first of each fork there
plus_zero : (n : ℕ) → n + 0 ≡ n
plus_zero n = omega arith

pub record Child (b : PlainBranch) (w : List Junction) (k m : ℕ) (r : Row) : Type 0 where
  pub case : ((suc k ≤ length (reach b w).run) × (m ≡ number_at b w (suc k)) × (r.continues ≡ true))
      ⊎ ((p : Junction) × (p.taken ≡ k) × IsPath b (w ++ p ∷ []) 1 × (m ≡ number_at b (w ++ p ∷ []) 1) × (r.continues ≡ false))

pub row_once : (rows : List (Option Row)) (n m : ℕ) (q r : Row) → n ≡ m → row_of rows n ≡ Some q → row_of rows m ≡ Some r → q ≡ r
row_once rows n m q r e f g = let i : Some q ≡ Some r = sym f ∙ ap (λ z. row_of rows z) e ∙ g in cc

child_step : (rows : List (Option Row)) (b : PlainBranch) (w x : List Junction) (k j m : ℕ) (r : Row) → Tree rows b → IsPath b w k → Proper w k → row_of rows m ≡ Some r → r.parent ≡ number_at b w k → IsPath b x j → number_at b x j ≡ m → Along x j ⊎ Off x j → Child b w k m r
child_step rows b w x k j m r t g o e p h n (inl a) =
    let hx : IsPath b x (suc a.0) = subst (λ z. IsPath b x z) a.1 h in
    let nx : number_at b x (suc a.0) ≡ m = ap (λ z. number_at b x z) (sym a.1) ∙ n in
    let q = row_once rows _ _ _ _ nx (row_along rows b x a.0 t.known hx a.2) e in
    let s = same_spot rows b x w a.0 k t (path_less b x (suc a.0) a.0 (omega arith) hx) g a.2 o (ap (λ z. z.parent) q ∙ p) in
    let hw : IsPath b w (suc k) = subst (λ z. IsPath b z (suc k)) s.0 (subst (λ z. IsPath b x (suc z)) s.1 hx) in
    record { case = inl (path_within b w (suc k) hw, sym nx ∙ ap (λ z. number_at b z (suc a.0)) s.0 ∙ ap (λ z. number_at b w (suc z)) s.1, ap (λ z. z.continues) (sym q)) }
child_step rows b w x k j m r t g o e p h n (inr a) =
    let hx : IsPath b (a.0 ++ a.1 ∷ []) 1 = subst (λ z. IsPath b z 1) a.2 (subst (λ z. IsPath b x z) a.3 h) in
    let nx : number_at b (a.0 ++ a.1 ∷ []) 1 ≡ m = ap (λ z. number_at b z 1) (sym a.2) ∙ ap (λ z. number_at b x z) (sym a.3) ∙ n in
    let q = row_once rows _ _ _ _ nx (row_fork rows b a.0 a.1 t.known hx) e in
    let s = same_spot rows b a.0 w a.1.taken k t (path_more b a.0 a.1 1 hx).0 g a.4 o (ap (λ z. z.parent) q ∙ p) in
    record { case = inr (a.1, s.1, subst (λ z. IsPath b (z ++ a.1 ∷ []) 1) s.0 hx, sym nx ∙ ap (λ z. number_at b (z ++ a.1 ∷ []) 1) s.0, ap (λ z. z.continues) (sym q)) }

pub child_of : (issued : ℕ) (b : PlainBranch) (w : List Junction) (k m : ℕ) (r : Row) → Tree (rows_of issued b) b → IsPath b w k → Proper w k → row_of (rows_of issued b) m ≡ Some r → r.parent ≡ number_at b w k → Child b w k m r
child_of issued b w k m r t g o e p =
    let s = row_spot issued b m r t.fitted e in
    child_step (rows_of issued b) b w s.0 k s.1 m r t g o e p s.2 s.5 (step_of s.0 s.1 s.3 s.4)

-- whether a play at a position continues its run
pub continued_end : (issued : ℕ) (b : PlainBranch) (w : List Junction) (k : ℕ) → Tree (rows_of issued b) b → IsPath b w k → Proper w k → k ≡ length (reach b w).run → is_continued (rows_of issued b) (number_at b w k) ≡ false
continued_end issued b w k t g o l =
    is_continued-none (rows_of issued b) (number_at b w k) (λ m r e p. ⊎_elim (λ c. let a = c.0 in absurd (omega (arith, a, l))) (λ c. c.4) (child_of issued b w k m r t g o e p).case)

pub path_reach : (b : PlainBranch) (w : List Junction) (k h : ℕ) → IsPath b w k → h ≤ length (reach b w).run → IsPath b w h
path_reach b [] k h g l = l
path_reach b (x ∷ xs) k h g l = (g.0, g.1, g.2, path_reach (fork_at b.forks x.fork) xs k h g.3 l)

pub continued_amid : (rows : List (Option Row)) (b : PlainBranch) (w : List Junction) (k : ℕ) → Tree rows b → IsPath b w k → Proper w k → k < length (reach b w).run → is_continued rows (number_at b w k) ≡ true
continued_amid rows b w k t g o l =
    is_continued-some rows (number_at b w k) (number_at b w (suc k)) (row (number_at b w k) (played_at b w k) true) (row_along rows b w k t.known (path_reach b w k (suc k) g (omega (arith, l))) o) refl refl

-- the nesting, from scratch
count_from-same : (o : Option Row) (f g : Row → ℕ) → ((r : Row) → o ≡ Some r → f r ≡ g r) → count_from o f ≡ count_from o g
count_from-same None f g h = refl
count_from-same (Some r) f g h = h r refl

nesting-enough : (rows : List (Option Row)) → RowsFall rows → (k j n : ℕ) → n ≤ k → n ≤ j → nesting_within k rows n ≡ nesting_within j rows n
nesting-enough rows w zero zero n h g = refl
nesting-enough rows w zero (suc j) zero h g = refl
nesting-enough rows w zero (suc j) (suc n) h g = absurd (omega (arith, h))
nesting-enough rows w (suc k) zero zero h g = refl
nesting-enough rows w (suc k) zero (suc n) h g = absurd (omega (arith, g))
nesting-enough rows w (suc k) (suc j) n h g =
    count_from-same (row_of rows n) _ _ (λ r e. let l = w n r e in ap (λ z. z + cond r.continues 0 1) (nesting-enough rows w k j r.parent (omega (arith, l, h)) (omega (arith, l, g))))

nesting-step : (rows : List (Option Row)) → RowsFall rows → (n : ℕ) (r : Row) → row_of rows n ≡ Some r → nesting rows n ≡ nesting rows r.parent + cond r.continues 0 1
unfolding nesting
nesting-step rows w zero r e = cc
nesting-step rows w (suc m) r e =
    let l = w (suc m) r e in
    ap (λ z. count_from z (λ q. nesting_within m rows q.parent + cond q.continues 0 1)) e ∙ ap (λ z. z + cond r.continues 0 1) (nesting-enough rows w m r.parent r.parent (omega (arith, l)) (omega arith))

nesting-zero : (rows : List (Option Row)) → nesting rows 0 ≡ 0
unfolding nesting
nesting-zero rows = refl

nesting_fuel : (rows : List (Option Row)) (b : PlainBranch) → Tree rows b → (n : ℕ) (w : List Junction) (j : ℕ) → number_at b w j < n → IsPath b w j → Proper w j → nesting rows (number_at b w j) ≡ length w
nesting_fuel rows b t zero w j l g o = absurd (omega (arith, l))
nesting_fuel rows b t (suc n) w zero l g o = let e = Proper-zero w o in ap (λ z. nesting rows (number_at b z 0)) e ∙ nesting-zero rows ∙ sym (ap (λ z. length z) e)
nesting_fuel rows b t (suc n) w (suc j) l g o =
    ⊎_elim (λ a.
    let ga : IsPath b w (suc a.0) = subst (λ z. IsPath b w z) a.1 g in
    let r = row_along rows b w a.0 t.known ga a.2 in
    let f = t.falls (number_at b w (suc a.0)) (row (number_at b w a.0) (played_at b w a.0) true) r in
    let m = ap (λ z. number_at b w z) a.1 in
    let i = nesting_fuel rows b t n w a.0 (omega (arith, f, l, m)) (path_less b w (suc a.0) a.0 (omega arith) ga) a.2 in
    let s = nesting-step rows t.falls (number_at b w (suc a.0)) (row (number_at b w a.0) (played_at b w a.0) true) r in
    let e = ap (λ z. nesting rows (number_at b w z)) a.1 in
    e ∙ s ∙ ap (λ z. z + 0) i ∙ plus_zero (length w))
    (λ a.
    let gw : IsPath b (a.0 ++ a.1 ∷ []) 1 = subst (λ z. IsPath b z 1) a.2 (subst (λ z. IsPath b w z) a.3 g) in
    let r = row_fork rows b a.0 a.1 t.known gw in
    let f = t.falls (number_at b (a.0 ++ a.1 ∷ []) 1) (row (number_at b a.0 a.1.taken) (played_at b (a.0 ++ a.1 ∷ []) 0) false) r in
    let m : number_at b w (suc j) ≡ number_at b (a.0 ++ a.1 ∷ []) 1 = ap (λ z. number_at b w z) a.3 ∙ ap (λ z. number_at b z 1) a.2 in
    let i = nesting_fuel rows b t n a.0 a.1.taken (omega (arith, f, l, m)) (path_more b a.0 a.1 1 gw).0 a.4 in
    ap (λ z. nesting rows z) m ∙ nesting-step rows t.falls (number_at b (a.0 ++ a.1 ∷ []) 1) (row (number_at b a.0 a.1.taken) (played_at b (a.0 ++ a.1 ∷ []) 0) false) r ∙ ap (λ z. z + 1) i ∙ sym (length_push a.0 a.1) ∙ sym (ap (λ z. length z) a.2))
    (step_of w (suc j) o (omega arith))

pub nesting_path : (rows : List (Option Row)) (b : PlainBranch) (w : List Junction) (j : ℕ) → Tree rows b → IsPath b w j → Proper w j → nesting rows (number_at b w j) ≡ length w
nesting_path rows b w j t g o = nesting_fuel rows b t (suc (number_at b w j)) w j (omega arith) g o

-- the machine's answers at a position
eqb-not : (n m : ℕ) → n < m → eqb n m ≡ false
eqb-not n m h = grind (arith, nat_tests)

pub goes_on_is : (issued : ℕ) (b : PlainBranch) (w : List Junction) (k : ℕ) → Tree (rows_of issued b) b → IsPath b w k → Proper w k → eqb k (length (reach b w).run) ≡ not (is_continued (rows_of issued b) (number_at b w k))
goes_on_is issued b w k t g o =
    let l = path_within b w k g in
    ⊎_elim (λ m. eqb-not k _ m ∙ sym (ap (λ z. not z) (continued_amid (rows_of issued b) b w k t g o m)))
    (λ e. eqb-is k _ e ∙ sym (ap (λ z. not z) (continued_end issued b w k t g o e)))
    (less_or_same k (length (reach b w).run) l)

pub nesting_amid : (issued : ℕ) (b : PlainBranch) (w : List Junction) (k : ℕ) → Tree (rows_of issued b) b → IsPath b w k → Proper w k → k < length (reach b w).run → nesting_below (rows_of issued b) (number_at b w k) ≡ length w + 1
nesting_amid issued b w k t g o l =
    ap (λ z. z + cond (is_continued (rows_of issued b) (number_at b w k)) 1 0) (nesting_path (rows_of issued b) b w k t g o)
    ∙ ap (λ z. length w + cond z 1 0) (continued_amid (rows_of issued b) b w k t g o l)

pub nesting_end : (issued : ℕ) (b : PlainBranch) (w : List Junction) (k : ℕ) → Tree (rows_of issued b) b → IsPath b w k → Proper w k → k ≡ length (reach b w).run → nesting_below (rows_of issued b) (number_at b w k) ≡ length w + 0
nesting_end issued b w k t g o l =
    ap (λ z. z + cond (is_continued (rows_of issued b) (number_at b w k)) 1 0) (nesting_path (rows_of issued b) b w k t g o)
    ∙ ap (λ z. length w + cond z 1 0) (continued_end issued b w k t g o l)

-- where a play is refused as too deep, and where it is not
pub deep_is : (issued : ℕ) (b : PlainBranch) (w : List Junction) (k : ℕ) → Tree (rows_of issued b) b → IsPath b w k → Proper w k → length w ≤ 64 → ((k ≡ length (reach b w).run) ⊎ (length w < 64) → ⊥) → 64 < nesting_below (rows_of issued b) (number_at b w k)
deep_is issued b w k t g o f n =
    let l = path_within b w k g in
    ⊎_elim (λ m. let e = nesting_amid issued b w k t g o m in ⊎_elim (λ a. absurd (n (inr a))) (λ a. omega (arith, e, f, a)) (less_or_same (length w) 64 f)) (λ e. absurd (n (inl e))) (less_or_same k (length (reach b w).run) l)

pub deep_not : (issued : ℕ) (b : PlainBranch) (w : List Junction) (k : ℕ) → Tree (rows_of issued b) b → IsPath b w k → Proper w k → length w ≤ 64 → ((k ≡ length (reach b w).run) ⊎ (length w < 64)) → nesting_below (rows_of issued b) (number_at b w k) ≤ 64
deep_not issued b w k t g o f n =
    let l = path_within b w k g in
    ⊎_elim (λ m. let e = nesting_amid issued b w k t g o m in ⊎_elim (λ a. omega (arith, a, m)) (λ a. omega (arith, e, a)) n) (λ m. let e = nesting_end issued b w k t g o m in omega (arith, e, f)) (less_or_same k (length (reach b w).run) l)
