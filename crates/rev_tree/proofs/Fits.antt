-- The order and the nesting of a tree, as it changes.
use Rattle.std.proofs.Common.{◌≡◌, ℕ, suc, zero, ◌+◌, ◌-◌, ◌<◌, ◌≤◌, Bool, true, false, List, [], ◌∷◌, ◌++◌, length, map, refl, ap, sym, ◌∙◌, subst, arith, Option, Some}
use Rattle.std.proofs.lemmas.List.{length-map, length-append}
use Rattle.rev_tree.specs.Tree.{PlainNode, PlainBranch, Forks, bare, fork, fork_at, put_fork, add_fork, count}
use Rattle.rev_tree.specs.Ways.{reach, IsWay, at_end, with_node, with_fork}
use Rattle.rev_tree.specs.Rows.{Row, row_of, row, RowsFall, number_after, Known, KnownRun, KnownForks, number_at}
use Rattle.rev_tree.specs.Positions.{wiped, erased_forks, Same, Proper, Inner}
use Rattle.rev_tree.specs.Paths.{IsPath}
use Rattle.rev_tree.specs.Finds.{RisesFrom, RisesForks, Rises, head_number, bar, IsFirst, Fitted, Found, FoundAt}
use Rattle.rev_tree.proofs.Finds.{rises_tail, fitted_child}
use Rattle.rev_tree.specs.declared.junction.Junction.{Junction}

-- the numbers of a run rise, since a parent was played before its child
rises_known_run : (rows : List (Option Row)) (p : ℕ) (c : Bool) (run : List PlainNode) → RowsFall rows → KnownRun rows p c run → RisesFrom p run
rises_known_run rows p c [] w h = tt
rises_known_run rows p c (e ∷ es) w h = (w e.number (row p e.step c) h.0, rises_known_run rows e.number true es w h.1)

rises_known_forks : (rows : List (Option Row)) (p : ℕ) (run : List PlainNode) (f : Forks) → RowsFall rows → KnownForks rows p run f → RisesForks f
rises_known_forks rows p run bare w h = tt
rises_known_forks rows p run (fork f r i m) w h =
    (rises_tail (number_after p f run) r (rises_known_run rows (number_after p f run) false r w h.0), rises_known_forks rows (number_after p f run) r i w h.1, rises_known_forks rows p run m w h.2)

pub rises_known : (rows : List (Option Row)) (p : ℕ) (c : Bool) (b : PlainBranch) → RowsFall rows → Known rows p c b → Rises b
rises_known rows p c b w h = (rises_tail p b.run (rises_known_run rows p c b.run w h.0), rises_known_forks rows p b.run b.forks w h.1)

-- two trees with the same nodes
head_wiped : (r : List PlainNode) → head_number (map wiped r) ≡ head_number r
head_wiped [] = refl
head_wiped (e ∷ es) = refl

fitted_erased : (f : Forks) (run more : List PlainNode) (k l z : ℕ) → length more ≡ length run → Fitted f run k l z → Fitted (erased_forks f) more k l z
fitted_erased bare run more k l z e h = tt
fitted_erased (fork f r i m) run more k l z e h =
    let a = h.1 in (
      h.0,
      omega (arith, e, a),
      subst (λ o. IsFirst z l f o) (sym (head_wiped r)) h.2,
      fitted_erased i r (map wiped r) (k - 1) 0 1 (length-map r wiped) h.3,
      subst (λ o. Fitted (erased_forks m) more k (bar l o) z) (sym (head_wiped r)) (fitted_erased m run more k (bar l (head_number r)) z e h.4),
    )

fitted_back : (f : Forks) (run more : List PlainNode) (k l z : ℕ) → length more ≡ length run → Fitted (erased_forks f) more k l z → Fitted f run k l z
fitted_back bare run more k l z e h = tt
fitted_back (fork f r i m) run more k l z e h =
    let a = h.1 in (
      h.0,
      omega (arith, e, a),
      subst (λ o. IsFirst z l f o) (head_wiped r) h.2,
      fitted_back i r (map wiped r) (k - 1) 0 1 (length-map r wiped) h.3,
      fitted_back m run more k (bar l (head_number r)) z e (subst (λ o. Fitted (erased_forks m) more k (bar l o) z) (head_wiped r) h.4),
    )

pub fitted_same : (b c : PlainBranch) → Same b c → Fitted b.forks b.run 64 0 0 → Fitted c.forks c.run 64 0 0
fitted_same b c s h =
    let e = fitted_erased b.forks b.run (map wiped b.run) 64 0 0 (length-map b.run wiped) h in
    fitted_back c.forks c.run (map wiped c.run) 64 0 0 (length-map c.run wiped) (subst (λ z. Fitted z.forks z.run 64 0 0) (sym s.shape) e)

-- a change at the end of a way
pub fitted_longer : (f : Forks) (run more : List PlainNode) (k l z : ℕ) → length run ≤ length more → Fitted f run k l z → Fitted f more k l z
fitted_longer bare run more k l z e h = tt
fitted_longer (fork f r i m) run more k l z e h = let a = h.1 in (h.0, omega (arith, e, a), h.2, h.3, fitted_longer m run more k (bar l (head_number r)) z e h.4)

pub fitted_put : (f : Forks) (run : List PlainNode) (k l z i : ℕ) (x : PlainBranch) → Fitted f run k l z → i < count f → x.from ≡ (fork_at f i).from → head_number x.run ≡ head_number (fork_at f i).run → Fitted x.forks x.run (k - 1) 0 1 → Fitted (put_fork f i x) run k l z
fitted_put bare run k l z i x h n ef eh g = absurd (omega arith)
fitted_put (fork f r j m) run k l z zero x h n ef eh g =
    let a = h.1 in
    (h.0, omega (arith, a, ef), subst (λ y. IsFirst z l y (head_number x.run)) (sym ef) (subst (λ o. IsFirst z l f o) (sym eh) h.2), g, subst (λ o. Fitted m run k (bar l o) z) (sym eh) h.4)
fitted_put (fork f r j m) run k l z (suc i) x h n ef eh g = (h.0, h.1, h.2, h.3, fitted_put m run k (bar l (head_number r)) z i x h.4 (omega arith) ef eh g)

abbrev pub least_at : ℕ → List Junction → ℕ
least_at z [] = z
least_at z (p ∷ ps) = least_at 1 ps

pub head_at_end : (f : PlainBranch → PlainBranch) (b : PlainBranch) (w : List Junction) → head_number (f (reach b w)).run ≡ head_number (reach b w).run → head_number (at_end f b w).run ≡ head_number b.run
head_at_end f b [] h = h
head_at_end f b (p ∷ ps) h = refl

from_at_end : (f : PlainBranch → PlainBranch) (b : PlainBranch) (w : List Junction) → ((c : PlainBranch) → (f c).from ≡ c.from) → (at_end f b w).from ≡ b.from
from_at_end f b [] h = h b
from_at_end f b (p ∷ ps) h = refl

pub fitted_at_end : (f : PlainBranch → PlainBranch) (b : PlainBranch) (w : List Junction) (k n z : ℕ) → n + length w ≡ k → ((c : PlainBranch) → (f c).from ≡ c.from) → IsWay b w → head_number (f (reach b w)).run ≡ head_number (reach b w).run → Fitted b.forks b.run k 0 z →
    (Fitted (reach b w).forks (reach b w).run n 0 (least_at z w) → Fitted (f (reach b w)).forks (f (reach b w)).run n 0 (least_at z w)) → Fitted (at_end f b w).forks (at_end f b w).run k 0 z
fitted_at_end f b [] k n z e ef y eh h g =
    let m : n ≡ k = omega (arith, e) in
    subst (λ i. Fitted (f b).forks (f b).run i 0 z) m (g (subst (λ i. Fitted b.forks b.run i 0 z) (sym m) h))
fitted_at_end f b (p ∷ ps) k n z e ef y eh h g =
    let c = fork_at b.forks p.fork in
    let q = fitted_child b.forks b.run k 0 z p.fork h y.0 in
    let m : n + length ps ≡ k - 1 = omega (arith, e) in
    fitted_put b.forks b.run k 0 z p.fork (at_end f c ps) h y.0 (from_at_end f c ps ef) (head_at_end f c ps eh) (fitted_at_end f c ps (k - 1) n 1 m ef y.1 eh q.2 g)

head_push : (run : List PlainNode) (e : PlainNode) → 0 < length run → head_number (run ++ e ∷ []) ≡ head_number run
head_push [] e h = absurd (omega arith)
head_push (d ∷ ds) e h = refl

inner_positive : (w : List Junction) (k : ℕ) → Inner w k → 0 < k
inner_positive [] k h = h
inner_positive (p ∷ ps) k h = inner_positive ps k h.1

pub fitted_way : (b : PlainBranch) (w : List Junction) (k l z : ℕ) → IsWay b w → Fitted b.forks b.run k l z → length w ≤ k
fitted_way b [] k l z y h = omega arith
fitted_way b (p ∷ ps) k l z y h =
    let q = fitted_child b.forks b.run k l z p.fork h y.0 in
    let r = fitted_way (fork_at b.forks p.fork) ps (k - 1) 0 1 y.1 q.2 in
    let s = q.0 in omega (arith, r, s)

pub fitted_push : (b : PlainBranch) (w : List Junction) (k : ℕ) (e : PlainNode) → IsWay b w → Proper w k → k ≡ length (reach b w).run → Fitted b.forks b.run 64 0 0 → Fitted (at_end (with_node e) b w).forks (at_end (with_node e) b w).run 64 0 0
fitted_push b [] k e y q l h = let n = length-append b.run (e ∷ []) in fitted_longer b.forks b.run (b.run ++ e ∷ []) 64 0 0 (omega (arith, n)) h
fitted_push b (p ∷ ps) k e y q l h =
    let r = (reach b (p ∷ ps)).run in
    let i = inner_positive ps k q in
    let n = length-append r (e ∷ []) in
    let s = fitted_way b (p ∷ ps) 64 0 0 y h in
    fitted_at_end (with_node e) b (p ∷ ps) 64 (64 - length (p ∷ ps)) 0 (omega (arith, s)) (λ c. refl) y (head_push r e (omega (arith, i, l))) h (λ g. fitted_longer (reach b (p ∷ ps)).forks r (r ++ e ∷ []) _ 0 _ (omega (arith, n)) g)

-- a number with a row
pub row_of-within : (rows : List (Option Row)) (n : ℕ) (r : Row) → row_of rows n ≡ Some r → n ≤ length rows
row_of-within rows zero r h = omega arith
row_of-within [] (suc n) r h = cc
row_of-within (q ∷ qs) (suc zero) r h = omega arith
row_of-within (q ∷ qs) (suc (suc n)) r h = let l = row_of-within qs (suc n) r h in omega (arith, l)

bar_below : (rows : List (Option Row)) (p l n : ℕ) (c : Bool) (r : List PlainNode) → KnownRun rows p c r → length rows < n → l < n → bar l (head_number r) < n
bar_below rows p l n c [] h m o = o
bar_below rows p l n c (e ∷ es) h m o = let w = row_of-within rows e.number (row p e.step c) h.0 in omega (arith, w, m)

fitted_add : (rows : List (Option Row)) (p : ℕ) (f : Forks) (run : List PlainNode) (k l z : ℕ) (x : PlainBranch) (n : ℕ) → KnownForks rows p run f → length rows < n → l < n → Fitted f run k l z → 0 < k → x.from ≤ length run → z ≤ x.from → head_number x.run ≡ Some n → x.forks ≡ bare → Fitted (add_fork f x) run k l z
fitted_add rows p bare run k l z x n o m a h b d q eh ex = (b, d, subst (λ i. IsFirst z l x.from i) (sym eh) (q, a), subst (λ i. Fitted i x.run (k - 1) 0 1) (sym ex) tt, tt)
fitted_add rows p (fork f r i j) run k l z x n o m a h b d q eh ex =
    (h.0, h.1, h.2, h.3, fitted_add rows p j run k (bar l (head_number r)) z x n o.2 m (bar_below rows (number_after p f run) l n false r o.0 m a) h.4 b d q eh ex)

least_inner : (w : List Junction) (k : ℕ) → Inner w k → least_at 1 w ≤ k
least_inner [] k h = omega (arith, h)
least_inner (p ∷ ps) k h = least_inner ps k h.1

least_proper : (w : List Junction) (k : ℕ) → Proper w k → least_at 0 w ≤ k
least_proper [] k h = omega arith
least_proper (p ∷ ps) k h = least_inner ps k h

pub fitted_split : (rows : List (Option Row)) (b : PlainBranch) (w : List Junction) (k n p : ℕ) (x : PlainBranch) → IsWay b w → Proper w k → k ≤ length (reach b w).run → length w < 64 → KnownForks rows p (reach b w).run (reach b w).forks → length rows < n → x.from ≡ k → head_number x.run ≡ Some n → x.forks ≡ bare →
    Fitted b.forks b.run 64 0 0 → Fitted (at_end (with_fork x) b w).forks (at_end (with_fork x) b w).run 64 0 0
fitted_split rows b w k n p x y q l s o m ef eh ex h =
    let c = reach b w in
    let t = least_proper w k q in
    fitted_at_end (with_fork x) b w 64 (64 - length w) 0 (omega (arith, s)) (λ c. refl) y refl h (λ g.
    fitted_add rows p c.forks c.run (64 - length w) 0 (least_at 0 w) x n o m (omega (arith, m)) g (omega (arith, s)) (omega (arith, l, ef)) (omega (arith, t, ef)) eh ex)

-- a position of the tree is a proper one
first_at : (z l f : ℕ) (r : List PlainNode) → IsFirst z l f (head_number r) → 0 < length r → z ≤ f
first_at z l f [] h m = absurd (omega arith)
first_at z l f (e ∷ es) h m = h.0

child_first : (f : Forks) (run : List PlainNode) (k l z i : ℕ) → Fitted f run k l z → i < count f → 0 < length (fork_at f i).run → z ≤ (fork_at f i).from
child_first bare run k l z i h m n = absurd (omega arith)
child_first (fork f r j g) run k l z zero h m n = first_at z l f r h.2 n
child_first (fork f r j g) run k l z (suc i) h m n = child_first g run k (bar l (head_number r)) z i h.4 (omega arith) n

path_node : (b : PlainBranch) (t : List Junction) (h k z : ℕ) → Fitted b.forks b.run k 0 z → IsPath b t h → 0 < h → 0 < z → (0 < length b.run) × Inner t h
path_node b [] h k z f q l o = (omega (arith, q, l), l)
path_node b (p ∷ ps) h k z f q l o =
    let c = fork_at b.forks p.fork in
    let d = fitted_child b.forks b.run k 0 z p.fork f q.1 in
    let r = path_node c ps h (k - 1) 1 d.2 q.3 l (omega arith) in
    let s = child_first b.forks b.run k 0 z p.fork f q.1 r.0 in
    let a = q.0 in
    let e = q.2 in
    (omega (arith, a, e, s, o), (omega (arith, e, s, o), r.1))

pub path_proper : (b : PlainBranch) (t : List Junction) (h : ℕ) → Fitted b.forks b.run 64 0 0 → IsPath b t h → 0 < h → Proper t h
path_proper b [] h f q l = tt
path_proper b (p ∷ ps) h f q l = (path_node (fork_at b.forks p.fork) ps h (64 - 1) 1 (fitted_child b.forks b.run 64 0 0 p.fork f q.1).2 q.3 l (omega arith)).1

pub found_placed : (n : ℕ) (b : PlainBranch) (w v : List Junction) (at : ℕ) → w ≡ [] → Fitted b.forks b.run 64 0 0 → Found n b w v at → FoundAt n b v at
found_placed n b w v at e f h =
    let m : v ≡ h.more = h.way ∙ ap (λ z. z ++ h.more) e in
    let q = subst (λ z. IsPath b z at) (sym m) h.path in
    record { path = q; proper = path_proper b v at f q h.inside; numbered = ap (λ z. number_at b z at) m ∙ h.numbered 0 }

pub root_placed : (n : ℕ) (b : PlainBranch) (w : List Junction) → n ≡ 0 → w ≡ [] → FoundAt n b w 0
root_placed n b w e f = rw (e, f) (record { path = omega arith; proper = tt; numbered = refl })
