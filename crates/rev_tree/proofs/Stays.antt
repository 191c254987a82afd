-- Where a tree grows, each position stays where it is.
use Rattle.std.proofs.Common.{◌≡◌, ℕ, suc, zero, ◌<◌, ◌≤◌, List, [], ◌∷◌, length, refl, ap, sym, ◌∙◌, subst, arith, ◌⊎◌, inl, inr, ⊎_elim}
use Rattle.std.proofs.lemmas.List.{length-append}
use Rattle.rev_tree.specs.Tree.{PlainNode, PlainBranch, Forks, bare, fork, fork_at, put_fork, add_fork, count}
use Rattle.rev_tree.specs.Ways.{reach, IsWay, at_end, with_node, with_fork}
use Rattle.rev_tree.specs.Rows.{number_after, start_at}
use Rattle.rev_tree.specs.Paths.{IsPath}
use Rattle.rev_tree.proofs.States.{fork_at-put, count-put, from-at_end}
use Rattle.rev_tree.proofs.Rows.{number_after-append}
use Rattle.rev_tree.specs.declared.junction.Junction.{Junction}

pub put_other : (f : Forks) (i j : ℕ) (x : PlainBranch) → (i ≡ j → ⊥) → fork_at (put_fork f i x) j ≡ fork_at f j
put_other bare i j x n = refl
put_other (fork f r y m) zero zero x n = absurd (n refl)
put_other (fork f r y m) zero (suc j) x n = refl
put_other (fork f r y m) (suc i) zero x n = refl
put_other (fork f r y m) (suc i) (suc j) x n = put_other m i j x (λ e. n (ap suc e))

pub same_or : (i j : ℕ) → (i ≡ j) ⊎ (i ≡ j → ⊥)
same_or zero zero = inl refl
same_or zero (suc j) = inr (λ e. omega (arith, e))
same_or (suc i) zero = inr (λ e. omega (arith, e))
same_or (suc i) (suc j) = ⊎_elim (λ e. inl (ap suc e)) (λ n. inr (λ e. n (omega (arith, e)))) (same_or i j)

-- a branch that has all of another, and maybe more
pub record Covers (b c : PlainBranch) : Type 0 where
  pub from : c.from ≡ b.from
  pub longer : length b.run ≤ length c.run
  pub numbers : (p k : ℕ) → k ≤ length b.run → number_after p k c.run ≡ number_after p k b.run
  pub forks : (j : ℕ) → j < count b.forks → (j < count c.forks) × (fork_at c.forks j ≡ fork_at b.forks j)

pub covers_node : (e : PlainNode) (b : PlainBranch) → Covers b (with_node e b)
covers_node e b = record {
  from = refl;
  longer = let n = length-append b.run (e ∷ []) in omega (arith, n);
  numbers = λ p k l. number_after-append p b.run (e ∷ []) k l;
  forks = λ j l. (l, refl);
}

fork_before : (f : Forks) (x : PlainBranch) (j : ℕ) → j < count f → (j < count (add_fork f x)) × (fork_at (add_fork f x) j ≡ fork_at f j)
fork_before bare x j l = absurd (omega (arith, l))
fork_before (fork f r i m) x zero l = (omega arith, refl)
fork_before (fork f r i m) x (suc j) l = let h = fork_before m x j (omega (arith, l)) in let n = h.0 in (omega (arith, n), h.1)

pub covers_fork : (x b : PlainBranch) → Covers b (with_fork x b)
covers_fork x b = record { from = refl; longer = omega arith; numbers = λ p k l. refl; forks = λ j l. fork_before b.forks x j l }

abbrev number_from : ℕ → PlainBranch → List Junction → ℕ → ℕ
number_from p b w k = number_after (start_at p b w) k (reach b w).run

-- a position of the branch is one of the branch that covers it, with the same number
covered : (b c : PlainBranch) (v : List Junction) (k p : ℕ) → Covers b c → IsPath b v k → IsPath c v k × (number_from p c v k ≡ number_from p b v k)
covered b c [] k p h q = let l = h.longer in (omega (arith, l, q), h.numbers p k q)
covered b c (x ∷ xs) k p h q =
    let m = h.forks x.fork q.1 in
    let l = h.longer in
    let t = q.0 in (
      (omega (arith, l, t), m.0, ap (λ z. z.from) m.1 ∙ q.2, subst (λ z. IsPath z xs k) (sym m.1) q.3),
      ap (λ z. number_from z (fork_at c.forks x.fork) xs k) (h.numbers p x.taken q.0) ∙ ap (λ z. number_from (number_after p x.taken b.run) z xs k) m.1,
    )

-- so it is where the branch at the end of a way is covered
pub stays : (f : PlainBranch → PlainBranch) → ((d : PlainBranch) → Covers d (f d)) → (b : PlainBranch) (w v : List Junction) (k p : ℕ) → IsWay b w → IsPath b v k → IsPath (at_end f b w) v k × (number_from p (at_end f b w) v k ≡ number_from p b v k)
stays f h b [] v k p y q = covered b (f b) v k p (h b) q
stays f h b (u ∷ us) [] k p y q = (q, refl)
stays f h b (u ∷ us) (x ∷ xs) k p y q =
    let c = fork_at b.forks u.fork in
    let z = at_end f c us in
    let n = number_after p x.taken b.run in
    ⊎_elim
    (λ e.
    let got : fork_at (put_fork b.forks u.fork z) x.fork ≡ z = ap (λ i. fork_at (put_fork b.forks u.fork z) i) (sym e) ∙ fork_at-put b.forks u.fork z y.0 in
    let r = stays f h c us xs k n y.1 (subst (λ i. IsPath (fork_at b.forks i) xs k) (sym e) q.3) in (
      (q.0, rw count-put q.1, ap (λ (i : PlainBranch). i.from) got ∙ from-at_end f c us (λ d. (h d).from) ∙ ap (λ i. (fork_at b.forks i).from) e ∙ q.2, subst (λ i. IsPath i xs k) (sym got) r.0),
      ap (λ i. number_from n i xs k) got ∙ r.1 ∙ ap (λ i. number_from n (fork_at b.forks i) xs k) e,
    ))
    (λ e.
    let got = put_other b.forks u.fork x.fork z e in (
      (q.0, rw count-put q.1, ap (λ (i : PlainBranch). i.from) got ∙ q.2, subst (λ i. IsPath i xs k) (sym got) q.3),
      ap (λ i. number_from n i xs k) got,
    ))
    (same_or u.fork x.fork)
