-- A tree with a node and all below it cut off.
use Rattle.std.proofs.Common.{◌≡◌, ℕ, suc, zero, ◌-◌, ◌<◌, ◌≤◌, Bool, true, false, cond, nat_lt, List, [], ◌∷◌, ◌++◌, length, take, drop, refl, ap, sym, ◌∙◌, subst, arith, ◌⊎◌, inl, inr, ⊎_elim}
use Rattle.std.proofs.lemmas.List.{append-nil}
use Rattle.std.proofs.lemmas.Bool.{cases_Bool}
use Rattle.std.proofs.lemmas.Bool.Decides.{nat_tests}
use Rattle.rev_tree.specs.Tree.{PlainNode, PlainBranch, Forks, bare, fork, fork_at, put_fork, count}
use Rattle.rev_tree.specs.Ways.{at_end}
use Rattle.rev_tree.specs.Paths.{IsPath, IsOnWay}
use Rattle.rev_tree.specs.Order.{head_number, bar, Fitted}
use Rattle.rev_tree.specs.Prunes.{trimmed_forks, cropped}
use Rattle.rev_tree.proofs.States.{fork_at-put, count-put, from-at_end}
use Rattle.rev_tree.proofs.Finds.{fitted_child}
use Rattle.rev_tree.proofs.Spots.{junction_eq}
use Rattle.rev_tree.proofs.Stays.{put_other, same_or}
use Rattle.rev_tree.proofs.Subs.{SubForks, Sub}
use Rattle.rev_tree.specs.declared.junction.Junction.{Junction}

-- what is taken of a run
take_rest : (r : List PlainNode) (k : ℕ) → r ≡ take k r ++ drop k r
take_rest [] zero = refl
take_rest [] (suc k) = refl
take_rest (e ∷ es) zero = refl
take_rest (e ∷ es) (suc k) = ap (λ z. e ∷ z) (take_rest es k)

take_few : (r : List PlainNode) (k : ℕ) → k ≤ length r → length (take k r) ≡ k
take_few [] zero l = refl
take_few [] (suc k) l = absurd (omega (arith, l))
take_few (e ∷ es) zero l = refl
take_few (e ∷ es) (suc k) l = ap suc (take_few es k (omega (arith, l)))

-- all is left
subs_refl : (f : Forks) (run : List PlainNode) (k l z : ℕ) → Fitted f run k l z → SubForks (length run) f f
subs_refl bare run k l z h = tt
subs_refl (fork f r i m) run k l z h =
    (inr (refl, h.1, [], sym (append-nil r), subs_refl i r (k - 1) 0 1 h.3), subs_refl m run k (bar l (head_number r)) z h.4)

sub_refl : (b : PlainBranch) (k l z : ℕ) → Fitted b.forks b.run k l z → Sub b b
sub_refl b k l z h = record { more = []; run = sym (append-nil b.run); forks = subs_refl b.forks b.run k l z h }

-- at the end of the way
trim_one : (t : Bool) (l f : ℕ) (r : List PlainNode) (i m n : Forks) → (t ≡ false → f ≤ l) → SubForks (length r) i i → SubForks l m n → SubForks l (fork f r i m) (cond t (fork 0 [] bare n) (fork f r i n))
trim_one true l f r i m n w h g = (inl (refl, refl, refl), g)
trim_one false l f r i m n w h g = (inr (refl, w refl, [], sym (append-nil r), h), g)

less_not : (k f : ℕ) → nat_lt k f ≡ false → f ≤ k
less_not k f e = grind (arith, nat_tests)

less_yes : (k f : ℕ) → nat_lt k f ≡ true → k < f
less_yes k f e = grind (arith, nat_tests)

at_most : (k f : ℕ) → f ≤ k → nat_lt k f ≡ false
at_most k f l = grind (arith, nat_tests)

trim_sub : (f : Forks) (run : List PlainNode) (j k l z : ℕ) → Fitted f run k l z → SubForks j f (trimmed_forks j f)
trim_sub bare run j k l z h = tt
trim_sub (fork f r i m) run j k l z h =
    trim_one (nat_lt j f) j f r i m (trimmed_forks j m) (λ e. less_not j f e) (subs_refl i r (k - 1) 0 1 h.3) (trim_sub m run j k (bar l (head_number r)) z h.4)

crop_sub : (b : PlainBranch) (j k l z : ℕ) → j ≤ length b.run → Fitted b.forks b.run k l z → Sub b (cropped j b)
crop_sub b j k l z n h = record {
  more = drop j b.run;
  run = take_rest b.run j;
  forks = subst (λ x. SubForks x b.forks (trimmed_forks j b.forks)) (sym (take_few b.run j n)) (trim_sub b.forks b.run j k l z h);
}

put_sub : (f : Forks) (run : List PlainNode) (i : ℕ) (x : PlainBranch) (k l z : ℕ) → Fitted f run k l z → x.from ≡ (fork_at f i).from → Sub (fork_at f i) x → SubForks (length run) f (put_fork f i x)
put_sub bare run i x k l z h e s = tt
put_sub (fork f r j m) run zero x k l z h e s = (inr (e, h.1, s.more, s.run, s.forks), subs_refl m run k (bar l (head_number r)) z h.4)
put_sub (fork f r j m) run (suc i) x k l z h e s =
    (inr (refl, h.1, [], sym (append-nil r), subs_refl j r (k - 1) 0 1 h.3), put_sub m run i x k (bar l (head_number r)) z h.4 e s)

pub sub_crop : (b : PlainBranch) (w : List Junction) (j k l z : ℕ) → IsPath b w (suc j) → Fitted b.forks b.run k l z → Sub b (at_end (cropped j) b w)
sub_crop b [] j k l z q h = crop_sub b j k l z (omega (arith, q)) h
sub_crop b (p ∷ ps) j k l z q h =
    let c = fork_at b.forks p.fork in
    let d = fitted_child b.forks b.run k l z p.fork h q.1 in
    record {
      more = [];
      run = sym (append-nil b.run);
      forks = put_sub b.forks b.run p.fork (at_end (cropped j) c ps) k l z h (from-at_end (cropped j) c ps (λ y. refl)) (sub_crop c ps j (k - 1) 0 1 q.3 d.2);
    }

-- nothing is left there
pub crop_gone : (b : PlainBranch) (w : List Junction) (j : ℕ) (y : List Junction) (i : ℕ) → IsPath b w (suc j) → IsPath (at_end (cropped j) b w) y i → IsOnWay w (suc j) y i → ⊥
crop_gone b [] j [] i q h o = let t = take_few b.run j (omega (arith, q)) in omega (arith, h, o, t)
crop_gone b [] j (x ∷ xs) i q h o = let t = take_few b.run j (omega (arith, q)) in let l = h.0 in omega (arith, l, o, t)
crop_gone b (p ∷ ps) j [] i q h o = o
crop_gone b (p ∷ ps) j (x ∷ xs) i q h o =
    let c = fork_at b.forks p.fork in
    let e : fork_at (put_fork b.forks p.fork (at_end (cropped j) c ps)) x.fork ≡ at_end (cropped j) c ps =
    ap (λ (z : Junction). fork_at (put_fork b.forks p.fork (at_end (cropped j) c ps)) z.fork) (sym o.0) ∙ fork_at-put b.forks p.fork (at_end (cropped j) c ps) q.1 in
    crop_gone c ps j xs i q.3 (subst (λ z. IsPath z xs i) e h.3) o.1

-- all else is
trim_keeps : (f : Forks) (j i : ℕ) → i < count f → (fork_at f i).from ≤ j → fork_at (trimmed_forks j f) i ≡ fork_at f i
trim_keeps bare j i l h = absurd (omega (arith, l))
trim_keeps (fork f r x m) j zero l h = ap (λ t. fork_at (cond t (fork 0 [] bare (trimmed_forks j m)) (fork f r x (trimmed_forks j m))) 0) (at_most j f h)
trim_keeps (fork f r x m) j (suc i) l h = elim (cases_Bool (nat_lt j f)) [
  | inl e ↦ ap (λ t. fork_at (cond t (fork 0 [] bare (trimmed_forks j m)) (fork f r x (trimmed_forks j m))) (suc i)) e ∙ trim_keeps m j i (omega (arith, l)) h
  | inr e ↦ ap (λ t. fork_at (cond t (fork 0 [] bare (trimmed_forks j m)) (fork f r x (trimmed_forks j m))) (suc i)) e ∙ trim_keeps m j i (omega (arith, l)) h
]

count-trim : (f : Forks) (j : ℕ) → count (trimmed_forks j f) ≡ count f
count-trim bare j = refl
count-trim (fork f r x m) j = elim (cases_Bool (nat_lt j f)) [
  | inl e ↦ ap (λ t. count (cond t (fork 0 [] bare (trimmed_forks j m)) (fork f r x (trimmed_forks j m)))) e ∙ ap suc (count-trim m j)
  | inr e ↦ ap (λ t. count (cond t (fork 0 [] bare (trimmed_forks j m)) (fork f r x (trimmed_forks j m)))) e ∙ ap suc (count-trim m j)
]

either : (i j : ℕ) → (i ≤ j) ⊎ (j < i)
either zero j = inl (omega arith)
either (suc i) zero = inr (omega arith)
either (suc i) (suc j) = ⊎_elim (λ l. inl (omega (arith, l))) (λ l. inr (omega (arith, l))) (either i j)

pub crop_left : (b : PlainBranch) (w : List Junction) (j : ℕ) (y : List Junction) (i : ℕ) → IsPath b w (suc j) → IsPath b y i → (IsOnWay w (suc j) y i → ⊥) → IsPath (at_end (cropped j) b w) y i
crop_left b [] j [] i q h n = let t = take_few b.run j (omega (arith, q)) in ⊎_elim (λ l. omega (arith, l, t)) (λ l. absurd (n (omega (arith, l)))) (either i j)
crop_left b [] j (x ∷ xs) i q h n =
    ⊎_elim
    (λ l.
    let t = take_few b.run j (omega (arith, q)) in
    let e = h.2 in
    let k = trim_keeps b.forks j x.fork h.1 (omega (arith, l, e)) in
    (omega (arith, l, t), rw count-trim h.1, subst (λ (z : PlainBranch). z.from ≡ x.taken) (sym k) h.2, subst (λ z. IsPath z xs i) (sym k) h.3))
    (λ l. absurd (n (omega (arith, l))))
    (either x.taken j)
crop_left b (p ∷ ps) j [] i q h n = h
crop_left b (p ∷ ps) j (x ∷ xs) i q h n =
    let c = fork_at b.forks p.fork in
    let y = at_end (cropped j) c ps in
    ⊎_elim
    (λ e.
    let same : p ≡ x = junction_eq p x (sym q.2 ∙ ap (λ z. (fork_at b.forks z).from) e ∙ h.2) e in
    let k : fork_at (put_fork b.forks p.fork y) x.fork ≡ y = ap (λ z. fork_at (put_fork b.forks p.fork y) z) (sym e) ∙ fork_at-put b.forks p.fork y q.1 in
    let path = subst (λ z. IsPath (fork_at b.forks z) xs i) (sym e) h.3 in (
      h.0,
      rw count-put h.1,
      ap (λ (z : PlainBranch). z.from) k ∙ from-at_end (cropped j) c ps (λ z. refl) ∙ ap (λ z. (fork_at b.forks z).from) e ∙ h.2,
      subst (λ z. IsPath z xs i) (sym k) (crop_left c ps j xs i q.3 path (λ o. n (same, o))),
    ))
    (λ e.
    let k = put_other b.forks p.fork x.fork y e in
    (h.0, rw count-put h.1, ap (λ (z : PlainBranch). z.from) k ∙ h.2, subst (λ z. IsPath z xs i) (sym k) h.3))
    (same_or p.fork x.fork)
