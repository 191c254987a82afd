-- The children that a branch shows are those that the rows name.
use Rattle.std.proofs.Common.{◌≡◌, ℕ, suc, zero, ◌+◌, ◌-◌, ◌<◌, ◌≤◌, Bool, true, false, cond, eqb, ltb, List, [], ◌∷◌, ◌++◌, length, slice_get, refl, ap, sym, ◌∙◌, subst, arith, Option, Some, None, ◌⊎◌, inl, inr, ⊎_elim, add-one}
use Rattle.std.proofs.lemmas.List.{length_push}
use Rattle.std.proofs.lemmas.Bool.Decides.{nat_tests}
use Rattle.rev_tree.specs.Tree.{PlainNode, PlainBranch, Forks, bare, fork, fork_at, count}
use Rattle.rev_tree.specs.Ways.{reach}
use Rattle.rev_tree.specs.Rows.{Row, row_of, row, number_at, start_at, rows_of}
use Rattle.rev_tree.specs.Positions.{Proper}
use Rattle.rev_tree.specs.Paths.{IsPath}
use Rattle.rev_tree.specs.Finds.{head_number, bar, IsFirst, Fitted, is_held, IsMissing, FoundAt}
use Rattle.rev_tree.specs.Machine.{is_child, children_from, children}
use Rattle.rev_tree.specs.Children.{before_rest, firsts, put_in, next_number, children_at}
use Rattle.rev_tree.proofs.Finds.{number_of, number_after-get, less_or_same}
use Rattle.rev_tree.proofs.Held.{held_row, path_held, missing_held}
use Rattle.rev_tree.proofs.Spots.{Along, Off, step_of, row_spot, path_less, Tree, path_way, path_more, same_spot, row_along, row_fork, number_fork, played_at, fitted_reach}
use Rattle.rev_tree.proofs.Fits.{path_proper}
use Rattle.rev_tree.proofs.Machine.{child_of, eqb-eq, path_reach, row_once}
use Rattle.rev_tree.specs.declared.junction.Junction.{Junction}
use Rattle.std.specs.Prelude.{ℕ}

-- the forks behind the first j
abbrev pub forks_from : Forks → ℕ → Forks
forks_from f zero = f
forks_from bare (suc j) = bare
forks_from (fork f r i m) (suc j) = forks_from m j

abbrev pub Mem : ℕ → List ℕ → Type 0
Mem x [] = ⊥
Mem x (y ∷ ys) = (x ≡ y) ⊎ Mem x ys

abbrev pub Rising : ℕ → List ℕ → Type 0
Rising l [] = Unit {0}
Rising l (x ∷ xs) = (l < x) × Rising x xs

mem_over : (l x : ℕ) (xs : List ℕ) → Rising l xs → Mem x xs → l < x
mem_over l x [] r m = absurd m
mem_over l x (y ∷ ys) r m = ⊎_elim (λ e. let a = r.0 in omega (arith, a, e)) (λ n. let a = r.0 in let b = mem_over y x ys r.1 n in omega (arith, a, b)) m

rising_weaker : (l j : ℕ) (xs : List ℕ) → j ≤ l → Rising l xs → Rising j xs
rising_weaker l j [] h r = tt
rising_weaker l j (x ∷ xs) h r = let a = r.0 in (omega (arith, a, h), r.1)

drop_head : (x y : ℕ) (ys : List ℕ) → y < x → (x ≡ y) ⊎ Mem x ys → Mem x ys
drop_head x y ys l m = ⊎_elim (λ e. absurd (omega (arith, l, e))) (λ n. n) m

-- rising lists with the same numbers are the same
pub same_list : (l : ℕ) (xs ys : List ℕ) → Rising l xs → Rising l ys → ((x : ℕ) → Mem x xs → Mem x ys) → ((x : ℕ) → Mem x ys → Mem x xs) → xs ≡ ys
same_list l [] [] r s f g = refl
same_list l [] (y ∷ ys) r s f g = absurd (g y (inl refl))
same_list l (x ∷ xs) [] r s f g = absurd (f x (inl refl))
same_list l (x ∷ xs) (y ∷ ys) r s f g =
    let a : y ≤ x = ⊎_elim (λ e. omega (arith, e)) (λ m. let o = mem_over y x ys s.1 m in omega (arith, o)) (f x (inl refl)) in
    let b : x ≤ y = ⊎_elim (λ e. omega (arith, e)) (λ m. let o = mem_over x y xs r.1 m in omega (arith, o)) (g y (inl refl)) in
    let e : x ≡ y = omega (arith, a, b) in
    ap (λ z. z ∷ xs) e ∙ ap (λ z. y ∷ z) (same_list y xs ys (subst (λ z. Rising z xs) e r.1) s.1
    (λ z m. drop_head z y ys (let o = mem_over x z xs r.1 m in omega (arith, o, e)) (f z (inr m)))
    (λ z m. drop_head z x xs (let o = mem_over y z ys s.1 m in omega (arith, o, e)) (g z (inr m))))

-- the children by the rows
bool_case : (c : Bool) → (c ≡ true) ⊎ (c ≡ false)
bool_case true = inl refl
bool_case false = inr refl

pub children_rise : (n k : ℕ) (rows : List (Option Row)) → Rising k (children_from n k rows)
children_rise n k [] = tt
children_rise n k (q ∷ qs) =
    ⊎_elim (λ e. subst (λ z. Rising k (cond z (suc k ∷ children_from n (suc k) qs) (children_from n (suc k) qs))) (sym e) (omega arith, children_rise n (suc k) qs))
    (λ e. subst (λ z. Rising k (cond z (suc k ∷ children_from n (suc k) qs) (children_from n (suc k) qs))) (sym e) (rising_weaker (suc k) k (children_from n (suc k) qs) (omega arith) (children_rise n (suc k) qs)))
    (bool_case (is_child n q))

child_row : (n : ℕ) (q : Option Row) → is_child n q ≡ true → (r : Row) × (q ≡ Some r) × (r.parent ≡ n)
child_row n None h = cc
child_row n (Some r) h = (r, refl, eqb-eq r.parent n h)

mem_cond : (x y : ℕ) (c : Bool) (l : List ℕ) → Mem x (cond c (y ∷ l) l) → ((c ≡ true) × (x ≡ y)) ⊎ Mem x l
mem_cond x y true l m = ⊎_elim (λ e. inl (refl, e)) (λ n. inr n) m
mem_cond x y false l m = inr m

cond_mem : (x y : ℕ) (c : Bool) (l : List ℕ) → Mem x l → Mem x (cond c (y ∷ l) l)
cond_mem x y true l m = inr m
cond_mem x y false l m = m

row_suc : (q : Option Row) (qs : List (Option Row)) (m : ℕ) (r : Row) → row_of qs m ≡ Some r → row_of (q ∷ qs) (suc m) ≡ Some r
row_suc q qs zero r e = cc
row_suc q qs (suc m) r e = e

children_mem : (n k x : ℕ) (rows : List (Option Row)) → Mem x (children_from n k rows) → (m : ℕ) × (r : Row) × (x ≡ k + m) × (row_of rows m ≡ Some r) × (r.parent ≡ n)
children_mem n k x [] m = absurd m
children_mem n k x (q ∷ qs) m =
    ⊎_elim (λ e. let r = child_row n q e.0 in let a = e.1 in (1, r.0, omega (arith, a), r.1, r.2))
    (λ o. let r = children_mem n (suc k) x qs o in let a = r.2 in (suc r.0, r.1, omega (arith, a), row_suc q qs r.0 r.1 r.3, r.4))
    (mem_cond x (suc k) (is_child n q) (children_from n (suc k) qs) m)

eqb-is : (n m : ℕ) → n ≡ m → eqb n m ≡ true
eqb-is n m h = grind (arith, nat_tests)

mem_children : (n k m : ℕ) (rows : List (Option Row)) (r : Row) → row_of rows m ≡ Some r → r.parent ≡ n → Mem (k + m) (children_from n k rows)
mem_children n k zero rows r e p = cc
mem_children n k (suc m) [] r e p = cc
mem_children n k (suc zero) (q ∷ qs) r e p =
    let i : is_child n q ≡ true = ap (λ z. is_child n z) e ∙ eqb-is r.parent n p in
    subst (λ z. Mem (k + 1) (cond z (suc k ∷ children_from n (suc k) qs) (children_from n (suc k) qs))) (sym i) (inl (omega arith))
mem_children n k (suc (suc m)) (q ∷ qs) r e p =
    let i : suc k + suc m ≡ k + suc (suc m) = omega arith in
    cond_mem (k + suc (suc m)) (suc k) (is_child n q) (children_from n (suc k) qs) (subst (λ z. Mem z (children_from n (suc k) qs)) i (mem_children n (suc k) (suc m) qs r e p))

-- the children by the branch
first_rise : (c : Bool) (z l f : ℕ) (o : Option ℕ) (ys : List ℕ) → IsFirst z l f o → Rising (bar l o) ys → Rising l (cond c (before_rest o ys) ys)
first_rise true z l f None ys h r = r
first_rise true z l f (Some n) ys h r = (h.1, r)
first_rise false z l f None ys h r = r
first_rise false z l f (Some n) ys h r = let a = h.1 in rising_weaker n l ys (omega (arith, a)) r

firsts_rise : (f : Forks) (run : List PlainNode) (k d l z : ℕ) → Fitted f run d l z → Rising l (firsts k f)
firsts_rise bare run k d l z h = tt
firsts_rise (fork f r i m) run k d l z h = first_rise (eqb f k) z l f (head_number r) (firsts k m) h.2 (firsts_rise m run k d (bar l (head_number r)) z h.4)

first_case : (f k x : ℕ) (r : List PlainNode) (ys : List ℕ) → f ≡ k → Mem x (before_rest (head_number r) ys) → ((f ≡ k) × (0 < length r) × (x ≡ number_of r 0)) ⊎ Mem x ys
first_case f k x [] ys e m = inr m
first_case f k x (d ∷ ds) ys e m = ⊎_elim (λ i. inl (e, omega arith, i)) (λ o. inr o) m

first_mem : (f k x : ℕ) (r : List PlainNode) (ys : List ℕ) → Mem x (cond (eqb f k) (before_rest (head_number r) ys) ys) → ((f ≡ k) × (0 < length r) × (x ≡ number_of r 0)) ⊎ Mem x ys
first_mem f k x r ys m = ⊎_elim (λ e. first_case f k x r ys (eqb-eq f k e) (subst (λ z. Mem x (cond z (before_rest (head_number r) ys) ys)) e m)) (λ e. inr (subst (λ z. Mem x (cond z (before_rest (head_number r) ys) ys)) e m)) (bool_case (eqb f k))

firsts_mem : (f : Forks) (k x : ℕ) → Mem x (firsts k f) → (i : ℕ) × (i < count f) × ((fork_at f i).from ≡ k) × (0 < length (fork_at f i).run) × (x ≡ number_of (fork_at f i).run 0)
firsts_mem bare k x m = absurd m
firsts_mem (fork f r j g) k x m =
    ⊎_elim (λ e. (0, omega arith, e.0, e.1, e.2)) (λ o. let s = firsts_mem g k x o in let a = s.1 in (suc s.0, omega (arith, a), s.2, s.3, s.4)) (first_mem f k x r (firsts k g) m)

mem_head : (r : List PlainNode) (ys : List ℕ) → 0 < length r → Mem (number_of r 0) (before_rest (head_number r) ys)
mem_head [] ys n = absurd (omega (arith, n))
mem_head (d ∷ ds) ys n = inl refl

mem_rest : (x : ℕ) (c : Bool) (o : Option ℕ) (ys : List ℕ) → Mem x ys → Mem x (cond c (before_rest o ys) ys)
mem_rest x true None ys m = m
mem_rest x true (Some n) ys m = inr m
mem_rest x false o ys m = m

mem_firsts : (f : Forks) (k i : ℕ) → i < count f → (fork_at f i).from ≡ k → 0 < length (fork_at f i).run → Mem (number_of (fork_at f i).run 0) (firsts k f)
mem_firsts bare k i l e n = absurd (omega (arith, l))
mem_firsts (fork f r j g) k zero l e n = subst (λ z. Mem (number_of r 0) (cond z (before_rest (head_number r) (firsts k g)) (firsts k g))) (sym (eqb-is f k e)) (mem_head r (firsts k g) n)
mem_firsts (fork f r j g) k (suc i) l e n = mem_rest (number_of (fork_at g i).run 0) (eqb f k) (head_number r) (firsts k g) (mem_firsts g k i (omega (arith, l)) e n)

-- a number put in
put_mem : (x : ℕ) (o : Option ℕ) (ys : List ℕ) → Mem x (put_in o ys) → (o ≡ Some x) ⊎ Mem x ys
put_mem x None ys m = inr m
put_mem x (Some a) [] m = ⊎_elim (λ e. inl (ap (λ z. Some z) (sym e))) (λ o. absurd o) m
put_mem x (Some a) (n ∷ l) m =
    ⊎_elim (λ c. ⊎_elim (λ e. inl (ap (λ z. Some z) (sym e))) (λ o. inr o) (subst (λ z. Mem x (cond z (a ∷ n ∷ l) (n ∷ put_in (Some a) l))) c m))
    (λ c. ⊎_elim (λ e. inr (inl e)) (λ o. ⊎_elim (λ e. inl e) (λ i. inr (inr i)) (put_mem x (Some a) l o)) (subst (λ z. Mem x (cond z (a ∷ n ∷ l) (n ∷ put_in (Some a) l))) c m)) (bool_case (ltb a n))

mem_put : (x : ℕ) (o : Option ℕ) (ys : List ℕ) → (o ≡ Some x) ⊎ Mem x ys → Mem x (put_in o ys)
mem_put x None ys m = ⊎_elim (λ e. cc) (λ o. o) m
mem_put x (Some a) [] m = ⊎_elim (λ e. inl (let i : x ≡ a = cc in i)) (λ o. absurd o) m
mem_put x (Some a) (n ∷ l) m =
    ⊎_elim (λ c. subst (λ z. Mem x (cond z (a ∷ n ∷ l) (n ∷ put_in (Some a) l))) (sym c) (⊎_elim (λ e. inl (let i : x ≡ a = cc in i)) (λ o. inr o) m))
    (λ c. subst (λ z. Mem x (cond z (a ∷ n ∷ l) (n ∷ put_in (Some a) l))) (sym c) (⊎_elim (λ e. inr (mem_put x (Some a) l (inl e))) (λ o. ⊎_elim (λ i. inl i) (λ i. inr (mem_put x (Some a) l (inr i))) o) m)) (bool_case (ltb a n))

ltb-is : (a n : ℕ) → ltb a n ≡ true → a < n
ltb-is a n h = grind (arith, nat_tests)

ltb-not : (a n : ℕ) → ltb a n ≡ false → n ≤ a
ltb-not a n h = grind (arith, nat_tests)

put_rise : (l a : ℕ) (ys : List ℕ) → l < a → Rising l ys → (Mem a ys → ⊥) → Rising l (put_in (Some a) ys)
put_rise l a [] h r f = (h, tt)
put_rise l a (n ∷ ns) h r f =
    ⊎_elim (λ c. subst (λ z. Rising l (cond z (a ∷ n ∷ ns) (n ∷ put_in (Some a) ns))) (sym c) (h, (ltb-is a n c, r.1)))
    (λ c. subst (λ z. Rising l (cond z (a ∷ n ∷ ns) (n ∷ put_in (Some a) ns))) (sym c)
    (r.0, put_rise n a ns (⊎_elim (λ i. i) (λ e. absurd (f (inl (sym e)))) (less_or_same n a (ltb-not a n c))) r.1 (λ m. f (inr m)))) (bool_case (ltb a n))

next_mem : (run : List PlainNode) (k : ℕ) → (next_number k run ≡ None × length run ≤ k) ⊎ ((k < length run) × (next_number k run ≡ Some (number_of run k)))
next_mem [] k = inl (refl, omega arith)
next_mem (e ∷ es) zero = inr (omega arith, refl)
next_mem (e ∷ es) (suc k) = ⊎_elim (λ r. let a = r.1 in inl (r.0, omega (arith, a))) (λ r. let a = r.0 in inr (omega (arith, a), r.1)) (next_mem es k)

-- a fork of the branch at a position, as a longer way
more_path : (b : PlainBranch) (w : List Junction) (p : Junction) (k : ℕ) → IsPath b w k → p.taken ≡ k → p.fork < count (reach b w).forks → (fork_at (reach b w).forks p.fork).from ≡ k → 0 < length (fork_at (reach b w).forks p.fork).run → IsPath b (w ++ p ∷ []) 1
more_path b [] p k q e l f n = (omega (arith, q, e), l, f ∙ sym e, omega (arith, n))
more_path b (x ∷ xs) p k q e l f n = (q.0, q.1, q.2, more_path (fork_at b.forks x.fork) xs p k q.3 e l f n)

first_spot : (b : PlainBranch) (w : List Junction) (k x : ℕ) → IsPath b w k → Mem x (firsts k (reach b w).forks) → (p : Junction) × (p.taken ≡ k) × IsPath b (w ++ p ∷ []) 1 × (x ≡ number_at b (w ++ p ∷ []) 1)
first_spot b w k x q m =
    let s = firsts_mem (reach b w).forks k x m in
    let p : Junction = record { taken = k; fork = s.0 } in
    (p, refl, more_path b w p k q refl s.1 s.2 s.3, s.4 ∙ sym (number_fork b w p s.3))

spot_first : (b : PlainBranch) (w : List Junction) (k : ℕ) (p : Junction) → p.taken ≡ k → IsPath b (w ++ p ∷ []) 1 → Mem (number_at b (w ++ p ∷ []) 1) (firsts k (reach b w).forks)
spot_first b w k p e q =
    let r = path_more b w p 1 q in
    let n = r.3 in
    subst (λ z. Mem z (firsts k (reach b w).forks)) (sym (number_fork b w p (omega (arith, n)))) (mem_firsts (reach b w).forks k p.fork r.1 (r.2 ∙ e) (omega (arith, n)))

next_at : (b : PlainBranch) (w : List Junction) (k : ℕ) → k < length (reach b w).run → number_of (reach b w).run k ≡ number_at b w (suc k)
next_at b w k l = sym (number_after-get (start_at 0 b w) k (reach b w).run l)

apart_ways : (w : List Junction) (p : Junction) → w ++ p ∷ [] ≡ w → ⊥
apart_ways w p e = let l = ap (λ z. length z) e in let n = length_push w p in omega (arith, l, n)

fall_positive : (rows : List (Option Row)) (b : PlainBranch) (w : List Junction) (k : ℕ) → Tree rows b → IsPath b w (suc k) → Proper w k → 0 < number_at b w (suc k)
fall_positive rows b w k t q o = let f = t.falls (number_at b w (suc k)) (row (number_at b w k) (played_at b w k) true) (row_along rows b w k t.known q o) in omega (arith, f)

children_at_rise : (rows : List (Option Row)) (b : PlainBranch) (w : List Junction) (k : ℕ) → Tree rows b → IsPath b w k → Proper w k → Rising 0 (children_at (reach b w) k)
children_at_rise rows b w k t q o =
    let c = reach b w in
    let f = fitted_reach b w 64 0 0 (path_way b w k q) t.fitted in
    let r : Rising 0 (firsts k c.forks) = rising_weaker f.1 0 (firsts k c.forks) (omega arith) (firsts_rise c.forks c.run k f.0 f.1 f.2 f.3) in
    ⊎_elim (λ e. subst (λ z. Rising 0 (put_in z (firsts k c.forks))) (sym e.0) r)
    (λ e.
    let g = path_reach b w k (suc k) q (let l = e.0 in omega (arith, l)) in
    let p = fall_positive rows b w k t g o in
    let n = next_at b w k e.0 in
    subst (λ z. Rising 0 (put_in z (firsts k c.forks))) (sym e.1) (put_rise 0 (number_of c.run k) (firsts k c.forks) (omega (arith, p, n)) r (λ m.
    let s = first_spot b w k (number_of c.run k) q m in
    let i = same_spot rows b (w ++ s.0 ∷ []) w 1 (suc k) t s.2 g (path_proper b (w ++ s.0 ∷ []) 1 t.fitted s.2 (omega arith)) (path_proper b w (suc k) t.fitted g (omega arith)) (sym s.3 ∙ n) in
    apart_ways w s.0 i.0)))
    (next_mem c.run k)

zero_plus : (n : ℕ) → 0 + n ≡ n
zero_plus n = omega arith

some_eq : (x y : ℕ) (o : Option ℕ) → o ≡ Some x → o ≡ Some y → x ≡ y
some_eq x y o e f = cc

children_at_in : (rows : List (Option Row)) (b : PlainBranch) (w : List Junction) (k : ℕ) → Tree rows b → IsPath b w k → Proper w k → (x : ℕ) → Mem x (children_at (reach b w) k) → Mem x (children rows (number_at b w k))
children_at_in rows b w k t q o x m =
    let c = reach b w in
    ⊎_elim (λ e. ⊎_elim (λ a. let a0 = a.0 in cc)
    (λ a.
    let g = path_reach b w k (suc k) q (let l = a.0 in omega (arith, l)) in
    let i : number_at b w (suc k) ≡ x = sym (next_at b w k a.0) ∙ some_eq (number_of c.run k) x (next_number k c.run) a.1 e in
    subst (λ z. Mem z (children rows (number_at b w k))) (zero_plus (number_at b w (suc k)) ∙ i) (mem_children (number_at b w k) 0 (number_at b w (suc k)) rows _ (row_along rows b w k t.known g o) refl))
    (next_mem c.run k))
    (λ e.
    let s = first_spot b w k x q e in
    subst (λ z. Mem z (children rows (number_at b w k))) (zero_plus (number_at b (w ++ s.0 ∷ []) 1) ∙ sym s.3)
    (mem_children (number_at b w k) 0 (number_at b (w ++ s.0 ∷ []) 1) rows _ (row_fork rows b w s.0 t.known s.2) (ap (λ z. number_at b w z) s.1)))
    (put_mem x (next_number k c.run) (firsts k c.forks) m)

in_children_at : (issued : ℕ) (b : PlainBranch) (w : List Junction) (k : ℕ) → Tree (rows_of issued b) b → IsPath b w k → Proper w k → (x : ℕ) → Mem x (children (rows_of issued b) (number_at b w k)) → Mem x (children_at (reach b w) k)
in_children_at issued b w k t q o x m =
    let c = reach b w in
    let s = children_mem (number_at b w k) 0 x (rows_of issued b) m in
    let i : x ≡ s.0 = let e = s.2 in omega (arith, e) in
    mem_put x (next_number k c.run) (firsts k c.forks)
    (⊎_elim (λ a.
    let l = a.0 in
    ⊎_elim (λ e. let n = e.1 in absurd (omega (arith, l, n))) (λ e. inl (e.1 ∙ ap (λ z. Some z) (next_at b w k e.0 ∙ sym a.1 ∙ sym i))) (next_mem c.run k))
    (λ a. inr (subst (λ z. Mem z (firsts k c.forks)) (sym a.3 ∙ sym i) (spot_first b w k a.0 a.1 a.2)))
    (child_of issued b w k s.0 s.1 t q o s.3 s.4).case)

-- the children that the branch at a position shows
pub children_at_children : (issued : ℕ) (b : PlainBranch) (w : List Junction) (k : ℕ) → Tree (rows_of issued b) b → IsPath b w k → Proper w k → children_at (reach b w) k ≡ children (rows_of issued b) (number_at b w k)
children_at_children issued b w k t q o =
    same_list 0 (children_at (reach b w) k) (children (rows_of issued b) (number_at b w k)) (children_at_rise (rows_of issued b) b w k t q o) (children_rise (number_at b w k) 0 (rows_of issued b))
    (children_at_in (rows_of issued b) b w k t q o) (in_children_at issued b w k t q o)

-- as the code counts them
pub skip_fork : (f : Forks) (j : ℕ) → j < count f → forks_from f j ≡ fork (fork_at f j).from (fork_at f j).run (fork_at f j).forks (forks_from f (suc j))
skip_fork bare j l = absurd (omega (arith, l))
skip_fork (fork f r i m) zero l = refl
skip_fork (fork f r i m) (suc j) l = skip_fork m j (omega (arith, l))

pub skip_all : (f : Forks) (j : ℕ) → count f ≤ j → forks_from f j ≡ bare
skip_all bare zero l = refl
skip_all bare (suc j) l = refl
skip_all (fork f r i m) zero l = absurd (omega (arith, l))
skip_all (fork f r i m) (suc j) l = skip_all m j (omega (arith, l))

ltb-true : (a n : ℕ) → a < n → ltb a n ≡ true
ltb-true a n h = grind (arith, nat_tests)

ltb-false : (a n : ℕ) → (a < n → ⊥) → ltb a n ≡ false
ltb-false a n h = grind (arith, nat_tests)

get_two : (a n l : ℕ) (ys : List ℕ) → 1 < l → slice_get (a ∷ n ∷ ys) l ≡ slice_get ys (l - 2)
get_two a n zero ys h = absurd (omega (arith, h))
get_two a n (suc zero) ys h = absurd (omega (arith, h))
get_two a n (suc (suc m)) ys h = let e : suc (suc m) - 2 ≡ m = omega arith in ap (λ z. slice_get ys z) (sym e)

get_one : (a l : ℕ) (ys : List ℕ) → 0 < l → slice_get (a ∷ ys) l ≡ slice_get ys (l - 1)
get_one a zero ys h = absurd (omega (arith, h))
get_one a (suc m) ys h = let e : suc m - 1 ≡ m = omega arith in ap (λ z. slice_get ys z) (sym e)

pub pass_both : (o : Option ℕ) (a n l : ℕ) (ys : List ℕ) → o ≡ Some a → a < n → 1 < l → slice_get (put_in o (n ∷ ys)) l ≡ slice_get ys (l - 2)
pass_both o a n l ys e h g =
    ap (λ z. slice_get (put_in z (n ∷ ys)) l) e ∙ ap (λ z. slice_get (cond z (a ∷ n ∷ ys) (n ∷ put_in (Some a) ys)) l) (ltb-true a n h) ∙ get_two a n l ys g

pub pass_one : (o : Option ℕ) (a n l : ℕ) (ys : List ℕ) → o ≡ Some a → (a < n → ⊥) → 0 < l → slice_get (put_in o (n ∷ ys)) l ≡ slice_get (put_in (Some a) ys) (l - 1)
pass_one o a n l ys e h g =
    ap (λ z. slice_get (put_in z (n ∷ ys)) l) e ∙ ap (λ z. slice_get (cond z (a ∷ n ∷ ys) (n ∷ put_in (Some a) ys)) l) (ltb-false a n h) ∙ get_one n l (put_in (Some a) ys) g

pub next_none : (run : List PlainNode) (k : ℕ) → length run ≤ k → None ≡ next_number k run
next_none run k h = ⊎_elim (λ e. sym e.0) (λ e. let l = e.0 in absurd (omega (arith, h, l))) (next_mem run k)

pub next_some : (run : List PlainNode) (k n : ℕ) → k < length run → n ≡ number_of run k → Some n ≡ next_number k run
next_some run k n h e = ⊎_elim (λ i. let l = i.1 in absurd (omega (arith, h, l))) (λ i. ap (λ z. Some z) e ∙ sym i.1) (next_mem run k)

-- one fork further
rest_none : (c : Bool) (o : Option ℕ) (ys : List ℕ) → None ≡ cond c o None → cond c (before_rest o ys) ys ≡ ys
rest_none true None ys e = refl
rest_none true (Some n) ys e = cc
rest_none false o ys e = refl

rest_some : (c : Bool) (o : Option ℕ) (ys : List ℕ) (n : ℕ) → Some n ≡ cond c o None → cond c (before_rest o ys) ys ≡ n ∷ ys
rest_some true None ys n e = cc
rest_some true (Some m) ys n e = let i : m ≡ n = cc in ap (λ z. z ∷ ys) i
rest_some false o ys n e = cc

pub firsts_none : (f : Forks) (j k : ℕ) → j < count f → None ≡ cond (eqb (fork_at f j).from k) (head_number (fork_at f j).run) None → firsts k (forks_from f j) ≡ firsts k (forks_from f (suc j))
firsts_none f j k l e = ap (λ z. firsts k z) (skip_fork f j l) ∙ rest_none (eqb (fork_at f j).from k) (head_number (fork_at f j).run) (firsts k (forks_from f (suc j))) e

pub firsts_some : (f : Forks) (j k n : ℕ) → j < count f → Some n ≡ cond (eqb (fork_at f j).from k) (head_number (fork_at f j).run) None → firsts k (forks_from f j) ≡ n ∷ firsts k (forks_from f (suc j))
firsts_some f j k n l e = ap (λ z. firsts k z) (skip_fork f j l) ∙ rest_some (eqb (fork_at f j).from k) (head_number (fork_at f j).run) (firsts k (forks_from f (suc j))) n e

pub firsts_end : (f : Forks) (j k : ℕ) → count f ≤ j → firsts k (forks_from f j) ≡ []
firsts_end f j k l = ap (λ z. firsts k z) (skip_all f j l)

pub last_of : (o : Option ℕ) (l : ℕ) → l ≡ 0 → slice_get (put_in o []) l ≡ o
last_of None l e = refl
last_of (Some a) l e = ap (λ z. slice_get (a ∷ []) z) e

pub last_none : (o : Option ℕ) (l : ℕ) → (l ≡ 0 → ⊥) → slice_get (put_in o []) l ≡ None
last_none None l e = refl
last_none (Some a) zero e = absurd (e refl)
last_none (Some a) (suc l) e = refl

next_head : (r : List PlainNode) → next_number 0 r ≡ head_number r
next_head [] = refl
next_head (e ∷ es) = refl

eqb-apart : (n m : ℕ) → (n ≡ m → ⊥) → eqb n m ≡ false
eqb-apart n m h = grind (arith, nat_tests)

pub first_no : (c d : PlainBranch) (from k : ℕ) → c ≡ d → c.from ≡ from → (from ≡ k → ⊥) → None ≡ cond (eqb d.from k) (head_number d.run) None
first_no c d from k e f h = sym (ap (λ z. cond (eqb z k) (head_number d.run) None) (ap (λ z. z.from) (sym e) ∙ f) ∙ ap (λ z. cond z (head_number d.run) None) (eqb-apart from k h))

pub first_yes : (c d : PlainBranch) (from k : ℕ) (o : Option ℕ) → c ≡ d → c.from ≡ from → from ≡ k → o ≡ next_number 0 c.run → o ≡ cond (eqb d.from k) (head_number d.run) None
first_yes c d from k o e f h g =
    g ∙ ap (λ z. next_number 0 z.run) e ∙ next_head d.run ∙ sym (ap (λ z. cond (eqb z k) (head_number d.run) None) (ap (λ z. z.from) (sym e) ∙ f) ∙ ap (λ z. cond z (head_number d.run) None) (eqb-is from k h))

pub each_none : (f : Forks) (j k l m : ℕ) (n o : Option ℕ) (r : Option ℕ) → j < count f → None ≡ cond (eqb (fork_at f j).from k) (head_number (fork_at f j).run) None → o ≡ n → m ≡ l →
    slice_get (put_in n (firsts k (forks_from f j))) l ≡ r → slice_get (put_in o (firsts k (forks_from f (j + 1)))) m ≡ r
each_none f j k l m n o r h e en em i =
    ap (λ z. slice_get (put_in z (firsts k (forks_from f (j + 1)))) m) en ∙ ap (λ z. slice_get (put_in n (firsts k (forks_from f (j + 1)))) z) em
    ∙ ap (λ z. slice_get (put_in n (firsts k (forks_from f z))) l) (add-one j) ∙ ap (λ z. slice_get (put_in n z) l) (sym (firsts_none f j k h e)) ∙ i

pub each_some : (f : Forks) (j k l m x : ℕ) (n o : Option ℕ) (r : Option ℕ) → j < count f → Some x ≡ cond (eqb (fork_at f j).from k) (head_number (fork_at f j).run) None → ((ys : List ℕ) → slice_get (put_in n (x ∷ ys)) l ≡ slice_get (put_in o ys) m) →
    slice_get (put_in n (firsts k (forks_from f j))) l ≡ r → slice_get (put_in o (firsts k (forks_from f (j + 1)))) m ≡ r
each_some f j k l m x n o r h e g i =
    ap (λ z. slice_get (put_in o (firsts k (forks_from f z))) m) (add-one j) ∙ sym (g (firsts k (forks_from f (suc j)))) ∙ ap (λ z. slice_get (put_in n z) l) (sym (firsts_some f j k x h e)) ∙ i

pub each_found : (f : Forks) (j k l x y : ℕ) (n : Option ℕ) (r : Option ℕ) → j < count f → Some x ≡ cond (eqb (fork_at f j).from k) (head_number (fork_at f j).run) None → ((ys : List ℕ) → slice_get (put_in n (x ∷ ys)) l ≡ Some y) →
    slice_get (put_in n (firsts k (forks_from f j))) l ≡ r → Some y ≡ r
each_found f j k l x y n r h e g i = sym (g (firsts k (forks_from f (suc j)))) ∙ ap (λ z. slice_get (put_in n z) l) (sym (firsts_some f j k x h e)) ∙ i

pub each_last : (f : Forks) (j k l : ℕ) (n r : Option ℕ) → count f ≤ j → l ≡ 0 → slice_get (put_in n (firsts k (forks_from f j))) l ≡ r → n ≡ r
each_last f j k l n r h e i = sym (last_of n l e) ∙ ap (λ z. slice_get (put_in n z) l) (sym (firsts_end f j k h)) ∙ i

pub each_out : (f : Forks) (j k l : ℕ) (n r : Option ℕ) → count f ≤ j → (l ≡ 0 → ⊥) → slice_get (put_in n (firsts k (forks_from f j))) l ≡ r → None ≡ r
each_out f j k l n r h e i = sym (last_none n l e) ∙ ap (λ z. slice_get (put_in n z) l) (sym (firsts_end f j k h)) ∙ i

-- no node hangs on a node that is not held
no_members : (xs : List ℕ) → ((x : ℕ) → Mem x xs → ⊥) → xs ≡ []
no_members [] h = refl
no_members (x ∷ xs) h = absurd (h x (inl refl))

parent_spot : (rows : List (Option Row)) (b : PlainBranch) (x : List Junction) (j m : ℕ) (r : Row) → Tree rows b → row_of rows m ≡ Some r → IsPath b x j → number_at b x j ≡ m → Along x j ⊎ Off x j → (v : List Junction) × (i : ℕ) × IsPath b v i × Proper v i × (number_at b v i ≡ r.parent)
parent_spot rows b x j m r t e h n (inl a) =
    let hx : IsPath b x (suc a.0) = subst (λ z. IsPath b x z) a.1 h in
    let nx : number_at b x (suc a.0) ≡ m = ap (λ z. number_at b x z) (sym a.1) ∙ n in
    let q = row_once rows _ _ _ _ nx (row_along rows b x a.0 t.known hx a.2) e in
    (x, a.0, path_less b x (suc a.0) a.0 (omega arith) hx, a.2, ap (λ z. z.parent) q)
parent_spot rows b x j m r t e h n (inr a) =
    let hx : IsPath b (a.0 ++ a.1 ∷ []) 1 = subst (λ z. IsPath b z 1) a.2 (subst (λ z. IsPath b x z) a.3 h) in
    let nx : number_at b (a.0 ++ a.1 ∷ []) 1 ≡ m = ap (λ z. number_at b z 1) (sym a.2) ∙ ap (λ z. number_at b x z) (sym a.3) ∙ n in
    let q = row_once rows _ _ _ _ nx (row_fork rows b a.0 a.1 t.known hx) e in
    (a.0, a.1.taken, (path_more b a.0 a.1 1 hx).0, a.4, ap (λ z. z.parent) q)

pub missing_children : (issued : ℕ) (b : PlainBranch) (n i : ℕ) → Tree (rows_of issued b) b → 0 < n → IsMissing n b → None ≡ slice_get (children (rows_of issued b) n) i
missing_children issued b n i t l h =
    sym (ap (λ z. slice_get z i) (no_members (children (rows_of issued b) n) (λ x m.
    let s = children_mem n 0 x (rows_of issued b) m in
    let p = row_spot issued b s.0 s.1 t.fitted s.3 in
    let u = parent_spot (rows_of issued b) b p.0 p.1 s.0 s.1 t s.3 p.2 p.5 (step_of p.0 p.1 p.3 p.4) in
    missing_held b issued n l h (path_held (rows_of issued b) b u.0 u.1 n u.2 u.3 t.known (u.4 ∙ s.4)))))

pub placed_child : (issued : ℕ) (b : PlainBranch) (n i k : ℕ) (w x : List Junction) (o : Option ℕ) → Tree (rows_of issued b) b → FoundAt n b w k → x ≡ w → o ≡ slice_get (children_at (reach b x) k) i → o ≡ slice_get (children (rows_of issued b) n) i
placed_child issued b n i k w x o t p ex e =
    e ∙ ap (λ z. slice_get (children_at (reach b z) k) i) ex ∙ ap (λ z. slice_get z i) (children_at_children issued b w k t p.path p.proper) ∙ ap (λ z. slice_get (children (rows_of issued b) z) i) p.numbered

get_mem : (xs : List ℕ) (i x : ℕ) → slice_get xs i ≡ Some x → Mem x xs
get_mem [] i x e = cc
get_mem (y ∷ ys) zero x e = inl (let k : x ≡ y = cc in k)
get_mem (y ∷ ys) (suc i) x e = inr (get_mem ys i x e)

pub child_held : (rows : List (Option Row)) (n i x : ℕ) → slice_get (children rows n) i ≡ Some x → is_held rows x ≡ true
child_held rows n i x e =
    let s = children_mem n 0 x rows (get_mem (children rows n) i x e) in
    let a = s.2 in
    let k : x ≡ s.0 = omega (arith, a) in
    ap (λ z. is_held rows z) k ∙ held_row rows s.0 s.1 s.3
