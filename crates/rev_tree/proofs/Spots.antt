-- Positions and numbers: each node that is held stands at one position only.
use Rattle.std.proofs.Common.{◌≡◌, ℕ, suc, zero, ◌-◌, ◌<◌, ◌≤◌, Bool, true, false, cond, eqb, List, [], ◌∷◌, ◌++◌, length, get_or, refl, ap, sym, ◌∙◌, subst, arith, Option, Some, None, ◌⊎◌, inl, inr, ⊎_elim}
use Rattle.std.proofs.lemmas.Bool.Decides.{nat_tests}
use Rattle.rev_tree.specs.Steps.{Step}
use Rattle.rev_tree.specs.Tree.{PlainNode, PlainBranch, Forks, bare, fork, fork_at, count}
use Rattle.rev_tree.specs.Ways.{reach, IsWay, no_node}
use Rattle.rev_tree.specs.Rows.{Row, row_of, row, RowsFall, number_after, start_at, number_at, or_else, find_run, find_forks, find_in, rows_of, Known}
use Rattle.rev_tree.proofs.Rows.{first_continues}
use Rattle.rev_tree.specs.Positions.{Proper}
use Rattle.rev_tree.specs.Paths.{IsPath}
use Rattle.rev_tree.specs.Finds.{head_number, bar, IsFirst, Fitted}
use Rattle.rev_tree.proofs.States.{reach-more}
use Rattle.rev_tree.proofs.Positions.{Proper-zero, Proper-at, Proper-more, start_at-more}
use Rattle.rev_tree.proofs.Finds.{number_of, number_after-get, fitted_child}
use Rattle.rev_tree.proofs.Fits.{path_proper}
use Rattle.rev_tree.proofs.Held.{goes, path_row, row_found}
use Rattle.rev_tree.specs.declared.junction.Junction.{Junction}

abbrev pub played_at : PlainBranch → List Junction → ℕ → Step
played_at b w k = (get_or (reach b w).run k no_node).step

-- the fork at a position, as a longer way
pub path_more : (b : PlainBranch) (w : List Junction) (p : Junction) (h : ℕ) → IsPath b (w ++ p ∷ []) h →
    IsPath b w p.taken × (p.fork < count (reach b w).forks) × ((fork_at (reach b w).forks p.fork).from ≡ p.taken) × (h ≤ length (fork_at (reach b w).forks p.fork).run)
path_more b [] p h q = (q.0, q.1, q.2, q.3)
path_more b (x ∷ xs) p h q = let r = path_more (fork_at b.forks x.fork) xs p h q.3 in ((q.0, q.1, q.2, r.0), r.1, r.2, r.3)

pub path_way : (b : PlainBranch) (w : List Junction) (h : ℕ) → IsPath b w h → IsWay b w
path_way b [] h q = tt
path_way b (x ∷ xs) h q = (q.1, path_way (fork_at b.forks x.fork) xs h q.3)

pub path_within : (b : PlainBranch) (w : List Junction) (h : ℕ) → IsPath b w h → h ≤ length (reach b w).run
path_within b [] h q = q
path_within b (x ∷ xs) h q = path_within (fork_at b.forks x.fork) xs h q.3

pub path_less : (b : PlainBranch) (w : List Junction) (h k : ℕ) → k ≤ h → IsPath b w h → IsPath b w k
path_less b [] h k l q = omega (arith, l, q)
path_less b (x ∷ xs) h k l q = (q.0, q.1, q.2, path_less (fork_at b.forks x.fork) xs h k l q.3)

-- the rows along a run and into a fork
first_false : (w : List Junction) → first_continues false w ≡ false
first_false [] = refl
first_false (p ∷ ps) = first_false ps

goes_proper : (w : List Junction) (k : ℕ) → Proper w k → goes k (first_continues true w) ≡ true
goes_proper w zero o = ap (λ z. first_continues true z) (Proper-zero w o)
goes_proper w (suc k) o = refl

first_more : (c : Bool) (w : List Junction) (p : Junction) → first_continues c (w ++ p ∷ []) ≡ false
first_more c [] p = refl
first_more c (x ∷ xs) p = first_more false xs p

pub row_along : (rows : List (Option Row)) (b : PlainBranch) (w : List Junction) (k : ℕ) → Known rows 0 true b → IsPath b w (suc k) → Proper w k → row_of rows (number_at b w (suc k)) ≡ Some (row (number_at b w k) (played_at b w k) true)
row_along rows b w k h q o = path_row rows b w k q h ∙ ap (λ z. Some (row (number_at b w k) (played_at b w k) z)) (goes_proper w k o)

pub row_fork : (rows : List (Option Row)) (b : PlainBranch) (v : List Junction) (p : Junction) → Known rows 0 true b → IsPath b (v ++ p ∷ []) 1 → row_of rows (number_at b (v ++ p ∷ []) 1) ≡ Some (row (number_at b v p.taken) (played_at b (v ++ p ∷ []) 0) false)
row_fork rows b v p h q =
    path_row rows b (v ++ p ∷ []) 0 q h
    ∙ ap (λ z. Some (row (number_at b (v ++ p ∷ []) 0) (played_at b (v ++ p ∷ []) 0) z)) (first_more true v p)
    ∙ ap (λ z. Some (row z (played_at b (v ++ p ∷ []) 0) false)) (start_at-more 0 b v p)

pub path_positive : (rows : List (Option Row)) (b : PlainBranch) (w : List Junction) (k : ℕ) → RowsFall rows → Known rows 0 true b → IsPath b w (suc k) → 0 < number_at b w (suc k)
path_positive rows b w k f h q = let l = f (number_at b w (suc k)) _ (path_row rows b w k q h) in omega (arith, l)

-- just above a position
abbrev pub Along : List Junction → ℕ → Type 0
Along w j = (k : ℕ) × (j ≡ suc k) × Proper w k

abbrev pub Off : List Junction → ℕ → Type 0
Off w j = (v : List Junction) × (p : Junction) × (w ≡ v ++ p ∷ []) × (j ≡ 1) × Proper v p.taken

abbrev pub LastStep : List Junction → ℕ → Type 0
LastStep w j = Along w j ⊎ Off w j

pub snoc : (w : List Junction) → (w ≡ []) ⊎ ((v : List Junction) × (p : Junction) × (w ≡ v ++ p ∷ []))
snoc [] = inl refl
snoc (x ∷ xs) = ⊎_elim (λ e. inr ([], x, ap (λ z. x ∷ z) e)) (λ r. inr (x ∷ r.0, r.1, ap (λ z. x ∷ z) r.2)) (snoc xs)

pub step_of : (w : List Junction) (j : ℕ) → Proper w j → 0 < j → LastStep w j
step_of w zero o l = absurd (omega (arith, l))
step_of w (suc (suc k)) o l = inl (suc k, refl, Proper-at w (suc (suc k)) (suc k) (omega arith) o)
step_of w (suc zero) o l =
    ⊎_elim (λ e. inl (0, refl, subst (λ z. Proper z 0) (sym e) tt)) (λ r. inr (r.0, r.1, r.2, refl, Proper-more r.0 r.1 1 (subst (λ z. Proper z 1) r.2 o))) (snoc w)

-- siblings have different numbers
bar_up : (z l f : ℕ) (o : Option ℕ) → IsFirst z l f o → l ≤ bar l o
bar_up z l f None h = omega arith
bar_up z l f (Some n) h = let a = h.1 in omega (arith, a)

first_over : (z l f : ℕ) (r : List PlainNode) → IsFirst z l f (head_number r) → 0 < length r → l < number_of r 0
first_over z l f [] h m = absurd (omega (arith, m))
first_over z l f (e ∷ es) h m = h.1

pub fitted_over : (f : Forks) (run : List PlainNode) (k l z i : ℕ) → Fitted f run k l z → i < count f → 0 < length (fork_at f i).run → l < number_of (fork_at f i).run 0
fitted_over bare run k l z i h m n = absurd (omega (arith, m))
fitted_over (fork f r j g) run k l z zero h m n = first_over z l f r h.2 n
fitted_over (fork f r j g) run k l z (suc i) h m n =
    let a = bar_up z l f (head_number r) h.2 in
    let c = fitted_over g run k (bar l (head_number r)) z i h.4 (omega (arith, m)) n in
    omega (arith, a, c)

bar_head : (l : ℕ) (r : List PlainNode) → 0 < length r → bar l (head_number r) ≡ number_of r 0
bar_head l [] m = absurd (omega (arith, m))
bar_head l (e ∷ es) m = refl

pub sibling : (f : Forks) (run : List PlainNode) (k l z i j : ℕ) → Fitted f run k l z → i < count f → j < count f → 0 < length (fork_at f i).run → 0 < length (fork_at f j).run → number_of (fork_at f i).run 0 ≡ number_of (fork_at f j).run 0 → i ≡ j
sibling bare run k l z i j h a b c d e = absurd (omega (arith, a))
sibling (fork f r x g) run k l z zero zero h a b c d e = refl
sibling (fork f r x g) run k l z zero (suc j) h a b c d e =
    let o = fitted_over g run k (bar l (head_number r)) z j h.4 (omega (arith, b)) d in
    let s = bar_head l r c in absurd (omega (arith, o, s, e))
sibling (fork f r x g) run k l z (suc i) zero h a b c d e =
    let o = fitted_over g run k (bar l (head_number r)) z i h.4 (omega (arith, a)) c in
    let s = bar_head l r d in absurd (omega (arith, o, s, e))
sibling (fork f r x g) run k l z (suc i) (suc j) h a b c d e = ap suc (sibling g run k (bar l (head_number r)) z i j h.4 (omega (arith, a)) (omega (arith, b)) c d e)

pub fitted_reach : (b : PlainBranch) (w : List Junction) (k l z : ℕ) → IsWay b w → Fitted b.forks b.run k l z → (i : ℕ) × (j : ℕ) × (y : ℕ) × Fitted (reach b w).forks (reach b w).run i j y
fitted_reach b [] k l z y h = (k, l, z, h)
fitted_reach b (x ∷ xs) k l z y h = fitted_reach (fork_at b.forks x.fork) xs (k - 1) 0 1 y.1 (fitted_child b.forks b.run k l z x.fork h y.0).2

-- a fork's first node
pub number_fork : (b : PlainBranch) (v : List Junction) (p : Junction) → 0 < length (fork_at (reach b v).forks p.fork).run → number_at b (v ++ p ∷ []) 1 ≡ number_of (fork_at (reach b v).forks p.fork).run 0
number_fork b v p l =
    let e = reach-more b v p in
    number_after-get (start_at 0 b (v ++ p ∷ [])) 0 (reach b (v ++ p ∷ [])).run (subst (λ z. 0 < length z.run) (sym e) l) ∙ ap (λ z. number_of z.run 0) e

-- what the nodes of a tree satisfy
pub record Tree (rows : List (Option Row)) (b : PlainBranch) : Type 0 where
  pub falls : RowsFall rows
  pub known : Known rows 0 true b
  pub fitted : Fitted b.forks b.run 64 0 0

row_parent : (rows : List (Option Row)) (n m : ℕ) (q r : Row) → n ≡ m → row_of rows n ≡ Some q → row_of rows m ≡ Some r → q ≡ r
row_parent rows n m q r e f g = let i : Some q ≡ Some r = sym f ∙ ap (λ z. row_of rows z) e ∙ g in cc

pub junction_eq : (p q : Junction) → p.taken ≡ q.taken → p.fork ≡ q.fork → p ≡ q
junction_eq p q e f = ap (λ z. let r : Junction = record { taken = z; fork = p.fork } in r) e ∙ ap (λ z. let r : Junction = record { taken = q.taken; fork = z } in r) f

fork_same : (b : PlainBranch) (rows : List (Option Row)) (v : List Junction) (p q : Junction) → Tree rows b → IsPath b (v ++ p ∷ []) 1 → IsPath b (v ++ q ∷ []) 1 → number_at b (v ++ p ∷ []) 1 ≡ number_at b (v ++ q ∷ []) 1 → p.taken ≡ q.taken → p ≡ q
fork_same b rows v p q t g h e m =
    let a = path_more b v p 1 g in
    let c = path_more b v q 1 h in
    let x = a.3 in
    let y = c.3 in
    let i = fitted_reach b v 64 0 0 (path_way b v p.taken a.0) t.fitted in
    junction_eq p q m (sibling (reach b v).forks (reach b v).run i.0 i.1 i.2 p.fork q.fork i.3 a.1 c.1 (omega (arith, x)) (omega (arith, y)) (sym (number_fork b v p (omega (arith, x))) ∙ e ∙ number_fork b v q (omega (arith, y))))

abbrev pub IH : PlainBranch → ℕ → Type 0
IH b n = (w x : List Junction) (j i : ℕ) → number_at b w j < n → IsPath b w j → IsPath b x i → Proper w j → Proper x i → number_at b w j ≡ number_at b x i → (w ≡ x) × (j ≡ i)

inj_along : (rows : List (Option Row)) (b : PlainBranch) (w x : List Junction) (k i n : ℕ) → Tree rows b → IH b n → number_at b w (suc k) ≤ n → IsPath b w (suc k) → IsPath b x (suc i) → Proper w k → Proper x i → number_at b w (suc k) ≡ number_at b x (suc i) → (w ≡ x) × (suc k ≡ suc i)
inj_along rows b w x k i n t ih l g h o q e =
    let r = row_along rows b w k t.known g o in
    let f = t.falls (number_at b w (suc k)) _ r in
    let s = ap (λ z. z.parent) (row_parent rows _ _ _ _ e r (row_along rows b x i t.known h q)) in
    let m = ih w x k i (omega (arith, f, l)) (path_less b w (suc k) k (omega arith) g) (path_less b x (suc i) i (omega arith) h) o q s in
    (m.0, ap suc m.1)

inj_mixed : (rows : List (Option Row)) (b : PlainBranch) (w v : List Junction) (k : ℕ) (p : Junction) → Tree rows b → IsPath b w (suc k) → IsPath b (v ++ p ∷ []) 1 → Proper w k → number_at b w (suc k) ≡ number_at b (v ++ p ∷ []) 1 → ⊥
inj_mixed rows b w v k p t g h o e =
    let s = ap (λ z. z.continues) (row_parent rows _ _ _ _ e (row_along rows b w k t.known g o) (row_fork rows b v p t.known h)) in cc

inj_off : (rows : List (Option Row)) (b : PlainBranch) (v u : List Junction) (p q : Junction) (n : ℕ) → Tree rows b → IH b n → number_at b (v ++ p ∷ []) 1 ≤ n → IsPath b (v ++ p ∷ []) 1 → IsPath b (u ++ q ∷ []) 1 → Proper v p.taken → Proper u q.taken → number_at b (v ++ p ∷ []) 1 ≡ number_at b (u ++ q ∷ []) 1 → v ++ p ∷ [] ≡ u ++ q ∷ []
inj_off rows b v u p q n t ih l g h o y e =
    let r = row_fork rows b v p t.known g in
    let f = t.falls (number_at b (v ++ p ∷ []) 1) _ r in
    let s = ap (λ z. z.parent) (row_parent rows _ _ _ _ e r (row_fork rows b u q t.known h)) in
    let m = ih v u p.taken q.taken (omega (arith, f, l)) (path_more b v p 1 g).0 (path_more b u q 1 h).0 o y s in
    let z = fork_same b rows v p q t g (subst (λ i. IsPath b (i ++ q ∷ []) 1) (sym m.0) h) (e ∙ ap (λ i. number_at b (i ++ q ∷ []) 1) (sym m.0)) m.1 in
    ap (λ i. i ++ p ∷ []) m.0 ∙ ap (λ i. u ++ i ∷ []) z

inj_cases : (rows : List (Option Row)) (b : PlainBranch) (w x : List Junction) (j i n : ℕ) → Tree rows b → IH b n → number_at b w j ≤ n → IsPath b w j → IsPath b x i → number_at b w j ≡ number_at b x i → LastStep w j → LastStep x i → (w ≡ x) × (j ≡ i)
inj_cases rows b w x j i n t ih l g h e (inl a) (inl c) =
    let r = inj_along rows b w x a.0 c.0 n t ih (subst (λ z. number_at b w z ≤ n) a.1 l) (subst (λ z. IsPath b w z) a.1 g) (subst (λ z. IsPath b x z) c.1 h) a.2 c.2 (ap (λ z. number_at b w z) (sym a.1) ∙ e ∙ ap (λ z. number_at b x z) c.1) in
    (r.0, a.1 ∙ r.1 ∙ sym c.1)
inj_cases rows b w x j i n t ih l g h e (inl a) (inr c) =
    let hx : IsPath b (c.0 ++ c.1 ∷ []) 1 = subst (λ z. IsPath b z 1) c.2 (subst (λ z. IsPath b x z) c.3 h) in
    absurd (inj_mixed rows b w c.0 a.0 c.1 t (subst (λ z. IsPath b w z) a.1 g) hx a.2 (ap (λ z. number_at b w z) (sym a.1) ∙ e ∙ ap (λ z. number_at b x z) c.3 ∙ ap (λ z. number_at b z 1) c.2))
inj_cases rows b w x j i n t ih l g h e (inr a) (inl c) =
    let gw : IsPath b (a.0 ++ a.1 ∷ []) 1 = subst (λ z. IsPath b z 1) a.2 (subst (λ z. IsPath b w z) a.3 g) in
    absurd (inj_mixed rows b x a.0 c.0 a.1 t (subst (λ z. IsPath b x z) c.1 h) gw c.2 (ap (λ z. number_at b x z) (sym c.1) ∙ sym e ∙ ap (λ z. number_at b w z) a.3 ∙ ap (λ z. number_at b z 1) a.2))
inj_cases rows b w x j i n t ih l g h e (inr a) (inr c) =
    let gw : IsPath b (a.0 ++ a.1 ∷ []) 1 = subst (λ z. IsPath b z 1) a.2 (subst (λ z. IsPath b w z) a.3 g) in
    let hx : IsPath b (c.0 ++ c.1 ∷ []) 1 = subst (λ z. IsPath b z 1) c.2 (subst (λ z. IsPath b x z) c.3 h) in
    let en : number_at b w j ≡ number_at b (a.0 ++ a.1 ∷ []) 1 = ap (λ z. number_at b w z) a.3 ∙ ap (λ z. number_at b z 1) a.2 in
    let em : number_at b x i ≡ number_at b (c.0 ++ c.1 ∷ []) 1 = ap (λ z. number_at b x z) c.3 ∙ ap (λ z. number_at b z 1) c.2 in
    (a.2 ∙ inj_off rows b a.0 c.0 a.1 c.1 n t ih (subst (λ z. z ≤ n) en l) gw hx a.4 c.4 (sym en ∙ e ∙ em) ∙ sym c.2, a.3 ∙ sym c.3)

inj_fuel : (rows : List (Option Row)) (b : PlainBranch) → Tree rows b → (n : ℕ) → IH b n
inj_fuel rows b t zero w x j i l g h o q e = absurd (omega (arith, l))
inj_fuel rows b t (suc n) w x zero zero l g h o q e = (Proper-zero w o ∙ sym (Proper-zero x q), refl)
inj_fuel rows b t (suc n) w x zero (suc i) l g h o q e =
    let z = path_positive rows b x i t.falls t.known h in
    let y : number_at b w 0 ≡ 0 = ap (λ v. number_at b v 0) (Proper-zero w o) in
    absurd (omega (arith, z, y, e))
inj_fuel rows b t (suc n) w x (suc j) zero l g h o q e =
    let z = path_positive rows b w j t.falls t.known g in
    let y : number_at b x 0 ≡ 0 = ap (λ v. number_at b v 0) (Proper-zero x q) in
    absurd (omega (arith, z, y, e))
inj_fuel rows b t (suc n) w x (suc j) (suc i) l g h o q e =
    inj_cases rows b w x (suc j) (suc i) n t (inj_fuel rows b t n) (omega (arith, l)) g h e (step_of w (suc j) o (omega arith)) (step_of x (suc i) q (omega arith))

-- a number stands at one position
pub same_spot : (rows : List (Option Row)) (b : PlainBranch) (w x : List Junction) (j i : ℕ) → Tree rows b → IsPath b w j → IsPath b x i → Proper w j → Proper x i → number_at b w j ≡ number_at b x i → (w ≡ x) × (j ≡ i)
same_spot rows b w x j i t g h o q e = inj_fuel rows b t (suc (number_at b w j)) w x j i (omega arith) g h o q e

-- each number that is found stands at a position
pub record Spot (n : ℕ) (b : PlainBranch) : Type 0 where
  pub way : List Junction
  pub at : ℕ
  pub path : IsPath b way at
  pub inside : 0 < at
  pub numbered : (p : ℕ) → number_after (start_at p b way) at (reach b way).run ≡ n

pub or_else-some : (a b : Option Row) (r : Row) → or_else a b ≡ Some r → (a ≡ Some r) ⊎ (b ≡ Some r)
or_else-some None b r h = inr h
or_else-some (Some q) b r h = inl h

cond-some : (t : Bool) (q r : Row) (o : Option Row) → cond t (Some q) o ≡ Some r → (t ≡ true) ⊎ (o ≡ Some r)
cond-some true q r o h = inl refl
cond-some false q r o h = inr h

eqb-true : (n m : ℕ) → eqb n m ≡ true → m ≡ n
eqb-true n m h = grind (arith, nat_tests)

spot_run : (n p : ℕ) (c : Bool) (run : List PlainNode) (r : Row) → find_run n p c run ≡ Some r → (k : ℕ) × (k < length run) × (number_of run k ≡ n)
spot_run n p c [] r h = cc
spot_run n p c (e ∷ es) r h =
    ⊎_elim (λ t. (0, omega arith, eqb-true n e.number t)) (λ t. let k = spot_run n e.number true es r t in let l = k.1 in (suc k.0, omega (arith, l), k.2)) (cond-some (eqb n e.number) (row p e.step c) r (find_run n e.number true es) h)

spot_here : (n : ℕ) (b : PlainBranch) (k : ℕ) → k < length b.run → number_of b.run k ≡ n → Spot n b
spot_here n b k l e = record { way = []; at = suc k; path = omega (arith, l); inside = omega arith; numbered = λ p. number_after-get p k b.run l ∙ e }

spot_below : (n : ℕ) (b : PlainBranch) (i : ℕ) → i < count b.forks → (fork_at b.forks i).from ≤ length b.run → Spot n (fork_at b.forks i) → Spot n b
spot_below n b i l m s =
    let p : Junction = record { taken = (fork_at b.forks i).from; fork = i } in
    record { way = p ∷ s.way; at = s.at; path = (m, l, refl, s.path); inside = s.inside; numbered = λ q. s.numbered (number_after q p.taken b.run) }

abbrev branch_of : ℕ → List PlainNode → Forks → PlainBranch
branch_of f r i = record { from = f; run = r; forks = i }

spot_forks : (n p : ℕ) (run : List PlainNode) (f : Forks) (r : Row) (k l z : ℕ) → Fitted f run k l z → find_forks n p run f ≡ Some r → (i : ℕ) × (i < count f) × Spot n (fork_at f i)
spot_forks n p run bare r k l z g h = cc
spot_forks n p run (fork f s j m) r k l z g h =
    let q = number_after p f run in
    ⊎_elim (λ t. (
      0,
      omega arith,
      ⊎_elim (λ u. let v = spot_run n q false s r u in spot_here n (branch_of f s j) v.0 v.1 v.2)
          (λ u. let v = spot_forks n q s j r (k - 1) 0 1 g.3 u in spot_below n (branch_of f s j) v.0 v.1 (fitted_child j s (k - 1) 0 1 v.0 g.3 v.1).1 v.2)
          (or_else-some (find_run n q false s) (find_forks n q s j) r t),
    ))
    (λ t. let v = spot_forks n p run m r k (bar l (head_number s)) z g.4 t in let a = v.1 in (suc v.0, omega (arith, a), v.2))
    (or_else-some (or_else (find_run n q false s) (find_forks n q s j)) (find_forks n p run m) r h)

pub spot : (n p : ℕ) (c : Bool) (b : PlainBranch) (r : Row) (k l z : ℕ) → Fitted b.forks b.run k l z → find_in n p c b ≡ Some r → Spot n b
spot n p c b r k l z g h =
    ⊎_elim (λ u. let v = spot_run n p c b.run r u in spot_here n b v.0 v.1 v.2)
    (λ u. let v = spot_forks n p b.run b.forks r k l z g u in spot_below n b v.0 v.1 (fitted_child b.forks b.run k l z v.0 g v.1).1 v.2)
    (or_else-some (find_run n p c b.run) (find_forks n p b.run b.forks) r h)

-- a row's node stands at a proper position
pub row_spot : (k : ℕ) (b : PlainBranch) (n : ℕ) (r : Row) → Fitted b.forks b.run 64 0 0 → row_of (rows_of k b) n ≡ Some r → (w : List Junction) × (j : ℕ) × IsPath b w j × Proper w j × (0 < j) × (number_at b w j ≡ n)
row_spot k b n r f h =
    let s = spot n 0 true b r 64 0 0 f (row_found k b n r h) in
    (s.way, s.at, s.path, path_proper b s.way s.at f s.path s.inside, s.inside, s.numbered 0)
