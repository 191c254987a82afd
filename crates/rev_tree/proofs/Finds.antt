-- How a numbered node is found.
use Rattle.std.proofs.Common.{◌≡◌, ℕ, suc, zero, ◌+◌, ◌-◌, ◌/◌, ◌<◌, ◌≤◌, Bool, true, false, cond, eqb, List, [], ◌∷◌, length, get_or, refl, ap, sym, ◌∙◌, subst, arith, Option, Some, None, ◌⊎◌, inl, inr, ⊎_elim, map}
use Rattle.std.proofs.lemmas.List.{append-nil}
use Rattle.rev_tree.specs.Tree.{forks_of}
use Rattle.rev_tree.proofs.Junctions.{fork_at-map, count-map, behind, way_split}
use Rattle.std.proofs.lemmas.Bool.Decides.{nat_tests}
use Rattle.rev_tree.specs.Tree.{PlainNode, PlainBranch, Forks, bare, fork, fork_at, count}
use Rattle.rev_tree.specs.Ways.{reach, no_node}
use Rattle.rev_tree.specs.Rows.{number_after, start_at, find_run, row}
use Rattle.rev_tree.specs.Children.{next_number}
use Rattle.std.specs.Option.{option_eq}
use Rattle.rev_tree.specs.Paths.{IsPath}
use Rattle.rev_tree.specs.Finds.{RisesFrom, RisesRun, RisesForks, Rises, head_number, bar, IsFirst, Fitted, Found}
use Rattle.rev_tree.specs.declared.junction.Junction.{Junction}

abbrev pub number_of : List PlainNode → ℕ → ℕ
number_of run k = (get_or run k no_node).number

pub rises_from : (p : ℕ) (run : List PlainNode) (i : ℕ) → RisesFrom p run → i < length run → p < number_of run i
rises_from p [] i h l = absurd (omega arith)
rises_from p (e ∷ es) zero h l = h.0
rises_from p (e ∷ es) (suc i) h l = let k = rises_from e.number es i h.1 (omega arith) in let a = h.0 in omega (arith, k, a)

pub rises_tail : (p : ℕ) (run : List PlainNode) → RisesFrom p run → RisesRun run
rises_tail p [] h = tt
rises_tail p (e ∷ es) h = h.1

pub rises_run : (run : List PlainNode) (i j : ℕ) → RisesRun run → i < j → j < length run → number_of run i < number_of run j
rises_run [] i j h l m = absurd (omega arith)
rises_run (e ∷ es) i zero h l m = absurd (omega arith)
rises_run (e ∷ es) zero (suc j) h l m = rises_from e.number es j h (omega arith)
rises_run (e ∷ es) (suc i) (suc j) h l m = rises_run es i j (rises_tail e.number es h) (omega arith) (omega arith)

rises_from_by : (p : ℕ) (run : List PlainNode) (i : ℕ) → RisesFrom p run → i < length run → p + suc i ≤ number_of run i
rises_from_by p [] i h l = absurd (omega arith)
rises_from_by p (e ∷ es) zero h l = let a = h.0 in omega (arith, a)
rises_from_by p (e ∷ es) (suc i) h l = let k = rises_from_by e.number es i h.1 (omega arith) in let a = h.0 in omega (arith, k, a)

-- along a run, the numbers rise by one at least
pub rises_by : (run : List PlainNode) (i : ℕ) → RisesRun run → i < length run → number_of run 0 + i ≤ number_of run i
rises_by [] i h l = absurd (omega arith)
rises_by (e ∷ es) zero h l = omega arith
rises_by (e ∷ es) (suc i) h l = rises_from_by e.number es i h (omega arith)

pub less_or_same : (i m : ℕ) → i ≤ m → (i < m) ⊎ (i ≡ m)
less_or_same zero zero h = inr refl
less_or_same zero (suc m) h = inl (omega arith)
less_or_same (suc i) zero h = absurd (omega arith)
less_or_same (suc i) (suc m) h = ⊎_elim (λ l. inl (omega (arith, l))) (λ e. inr (ap suc e)) (less_or_same i m (omega arith))

-- the search narrows
pub seek_low : (run : List PlainNode) (m n : ℕ) → RisesRun run → m < length run → number_of run m < n → (i : ℕ) → i < m + 1 → number_of run i < n
seek_low run m n h l k i a =
    ⊎_elim (λ b. let r = rises_run run i m h b l in omega (arith, r, k)) (λ e. let r = ap (λ z. number_of run z) e in omega (arith, r, k)) (less_or_same i m (omega arith))

pub seek_high : (run : List PlainNode) (m n : ℕ) → RisesRun run → n < number_of run m → (i : ℕ) → m ≤ i → i < length run → n < number_of run i
seek_high run m n h k i a l =
    ⊎_elim (λ b. let r = rises_run run m i h b l in omega (arith, r, k)) (λ e. let r = ap (λ z. number_of run z) e in omega (arith, r, k)) (less_or_same m i a)

eqb-apart : (n m : ℕ) → (m ≡ n → ⊥) → eqb n m ≡ false
eqb-apart n m h = grind (arith, nat_tests)

pub none_in_run : (n p : ℕ) (c : Bool) (run : List PlainNode) → ((i : ℕ) → i < length run → number_of run i ≡ n → ⊥) → find_run n p c run ≡ None
none_in_run n p c [] h = refl
none_in_run n p c (e ∷ es) h =
    ap (λ z. cond z (Some (row p e.step c)) (find_run n e.number true es)) (eqb-apart n e.number (h 0 (omega arith))) ∙ none_in_run n e.number true es (λ i l. h (suc i) (omega (arith, l)))

pub split_at : (i m : ℕ) → (i < m) ⊎ (m ≤ i)
split_at zero zero = inr (omega arith)
split_at zero (suc m) = inl (omega arith)
split_at (suc i) zero = inr (omega arith)
split_at (suc i) (suc m) = ⊎_elim (λ l. inl (omega (arith, l))) (λ l. inr (omega (arith, l))) (split_at i m)

pub sought : (run : List PlainNode) (n low high : ℕ) → high ≤ low → ((i : ℕ) → i < low → number_of run i < n) → ((i : ℕ) → high ≤ i → i < length run → n < number_of run i) → (p : ℕ) (c : Bool) → find_run n p c run ≡ None
sought run n low high m a b p c = none_in_run n p c run (λ i l e. ⊎_elim (λ z. let r = a i (omega (arith, z)) in omega (arith, r, e)) (λ z. let r = b i (omega (arith, m, z)) l in omega (arith, r, e)) (split_at i low))

-- forks by their number
pub fitted_child : (f : Forks) (run : List PlainNode) (k l z i : ℕ) → Fitted f run k l z → i < count f → (0 < k) × ((fork_at f i).from ≤ length run) × Fitted (fork_at f i).forks (fork_at f i).run (k - 1) 0 1
fitted_child bare run k l z i h m = absurd (omega arith)
fitted_child (fork f r j n) run k l z zero h m = (h.0, h.1, h.3)
fitted_child (fork f r j n) run k l z (suc i) h m = fitted_child n run k (bar l (head_number r)) z i h.4 (omega arith)

first_weaker : (z y l j f : ℕ) (o : Option ℕ) → y ≤ z → j ≤ l → IsFirst z l f o → IsFirst y j f o
first_weaker z y l j f None a b h = tt
first_weaker z y l j f (Some n) a b h = let c = h.0 in let d = h.1 in (omega (arith, a, c), omega (arith, b, d))

bar_weaker : (l j : ℕ) (o : Option ℕ) → j ≤ l → bar j o ≤ bar l o
bar_weaker l j None h = h
bar_weaker l j (Some n) h = omega arith

pub fitted_weaker : (f : Forks) (run : List PlainNode) (k l j z y : ℕ) → y ≤ z → j ≤ l → Fitted f run k l z → Fitted f run k j y
fitted_weaker bare run k l j z y a b h = tt
fitted_weaker (fork f r i m) run k l j z y a b h =
    (h.0, h.1, first_weaker z y l j f (head_number r) a b h.2, h.3, fitted_weaker m run k (bar l (head_number r)) (bar j (head_number r)) z y a (bar_weaker l j (head_number r) b) h.4)

pub rises_child : (f : Forks) (i : ℕ) → RisesForks f → i < count f → Rises (fork_at f i)
rises_child bare i h l = absurd (omega arith)
rises_child (fork f r j m) zero h l = (h.0, h.1)
rises_child (fork f r j m) (suc i) h l = rises_child m i h.2 (omega arith)

pub number_after-get : (p k : ℕ) (run : List PlainNode) → k < length run → number_after p (suc k) run ≡ number_of run k
number_after-get p k [] l = absurd (omega arith)
number_after-get p zero (e ∷ es) l = refl
number_after-get p (suc k) (e ∷ es) l = number_after-get e.number k es (omega arith)

-- found in the run
pub found_here : (n : ℕ) (b : PlainBranch) (w v : List Junction) (k j : ℕ) → j ≡ suc k → k < length b.run → number_of b.run k ≡ n → v ≡ w → Found n b w v j
found_here n b w v k j ej l e ev = record {
  more = [];
  way = ev ∙ sym (append-nil w);
  path = omega (arith, ej, l);
  inside = omega (arith, ej);
  numbered = λ p. ap (λ z. number_after p z b.run) ej ∙ number_after-get p k b.run l ∙ e;
}

-- found at the end of a way
no_way : (w : List Junction) → length w < 1 → w ≡ []
no_way [] h = refl
no_way (p ∷ ps) h = absurd (omega arith)

pub found_end : (n : ℕ) (b : PlainBranch) (v : List Junction) (k j : ℕ) → length v < 1 → j ≡ suc k → k < length b.run → number_of b.run k ≡ n → Found n b [] v j
found_end n b v k j h ej l e = found_here n b [] v k j ej l e (no_way v h)

pub found_behind : (n : ℕ) (b c : PlainBranch) (w : List Junction) (d : Junction) (at : ℕ) → 1 ≤ length w → (get_or w 0 d).fork < count b.forks → (get_or w 0 d).taken ≤ length b.run → c ≡ fork_at b.forks (get_or w 0 d).fork → c.from ≡ (get_or w 0 d).taken → Found n c [] (behind w) at → Found n b [] w at
found_behind n b c w d at o m l e ef h =
    let p : Junction = get_or w 0 d in
    record {
      more = p ∷ h.more;
      way = way_split w d o ∙ ap (λ z. p ∷ z) h.way;
      path = (l, m, ap (λ z. z.from) (sym e) ∙ ef, subst (λ z. IsPath z h.more at) e h.path);
      inside = h.inside;
      numbered = λ q. ap (λ z. number_after (start_at (number_after q p.taken b.run) z h.more) at (reach z h.more).run) (sym e) ∙ h.numbered (number_after q p.taken b.run);
    }

-- a run's first node, and where a number stands at most
pub next_read : (run : List PlainNode) (k n : ℕ) → next_number k run ≡ Some n → (k < length run) × (number_of run k ≡ n)
next_read [] k n h = cc
next_read (e ∷ es) zero n h = (omega arith, cc)
next_read (e ∷ es) (suc k) n h = let r = next_read es k n h in let l = r.0 in (omega (arith, l), r.1)

pub none_first : (run : List PlainNode) → next_number 0 run ≡ None → (n p : ℕ) (c : Bool) → find_run n p c run ≡ None
none_first [] h n p c = refl
none_first (e ∷ es) h n p c = cc

next_there : (run : List PlainNode) (k : ℕ) → k < length run → next_number k run ≡ Some (number_of run k)
next_there [] k l = absurd (omega arith)
next_there (e ∷ es) zero l = refl
next_there (e ∷ es) (suc k) l = next_there es k (omega arith)

-- behind the furthest place where a number can stand, and there too if that place has another, the numbers are over it
pub over_furthest : (run : List PlainNode) (n first : ℕ) → RisesRun run → next_number 0 run ≡ Some first → (next_number (n - first) run ≡ Some n → ⊥) → (i : ℕ) → n - first ≤ i → i < length run → n < number_of run i
over_furthest run n first rises h apart i a l =
    let f = (next_read run 0 first h).1 in
    let r = rises_by run i rises l in
    let there : number_of run i ≡ n → n - first ≡ i → ⊥ = λ o m. apart (ap (λ z. next_number z run) m ∙ next_there run i l ∙ ap (λ z. Some z) o) in
    ⊎_elim (λ m. omega (arith, f, r, m)) (λ m. ⊎_elim (λ o. o) (λ o. absurd (there (sym o) m)) (less_or_same n (number_of run i) (omega (arith, f, r, m)))) (less_or_same (n - first) i a)

-- what `==` says of a number that may be there
pub same_number : (o : Option ℕ) (n : ℕ) → option_eq eqb o (Some n) ≡ true → o ≡ Some n
same_number None n h = cc
same_number (Some m) n h = let e : m ≡ n = grind (arith, nat_tests) in ap (λ z. Some z) e

pub number_same : (o : Option ℕ) (n : ℕ) → o ≡ Some n → option_eq eqb o (Some n) ≡ true
number_same None n h = cc
number_same (Some m) n h = let e : m ≡ n = cc in grind (arith, nat_tests)

pub middle_low : (low high : ℕ) → low < high → low + (high - low) / 2 < high
middle_low low high h = omega (arith, h)

-- the child that the code reads
pub child_at : {X : Type 0} (v : X → PlainBranch) (bs : List X) (b : PlainBranch) (i : ℕ) (x : X) (c : PlainBranch) → b.forks ≡ forks_of (map v bs) → i < count b.forks → x ≡ get_or bs i x → c ≡ v x → c ≡ fork_at b.forks i
child_at v bs b i x c e h r s =
    let n : count b.forks ≡ length bs = ap count e ∙ count-map v bs in
    s ∙ ap v r ∙ sym (ap (λ z. fork_at z i) e ∙ fork_at-map v bs i x (omega (arith, h, n)))

pub fork_within : {X : Type 0} (v : X → PlainBranch) (bs : List X) (b : PlainBranch) (i : ℕ) → b.forks ≡ forks_of (map v bs) → i < count b.forks → i < length bs
fork_within v bs b i e h = let n : count b.forks ≡ length bs = ap count e ∙ count-map v bs in omega (arith, h, n)
