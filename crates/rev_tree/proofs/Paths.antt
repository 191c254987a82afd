-- Going to a position of the tree, step by step.
use Rattle.std.proofs.Common.{◌≡◌, ℕ, suc, ◌<◌, ◌≤◌, List, [], ◌∷◌, ◌++◌, length, refl, ap, sym, ◌∙◌, subst, arith, get_or}
use Rattle.std.proofs.lemmas.List.{length-map}
use Rattle.rev_tree.specs.Tree.{PlainBranch, Forks, bare, fork, count, fork_at}
use Rattle.rev_tree.specs.Ways.{reach}
use Rattle.rev_tree.specs.Positions.{wiped, erased, erased_forks, Same, Proper, Inner, depth}
use Rattle.rev_tree.specs.Paths.{IsPath, IsOnWay}
use Rattle.rev_tree.proofs.Positions.{fork_at-erased}
use Rattle.rev_tree.specs.declared.junction.Junction.{Junction}
use Rattle.std.specs.Prelude.{ℕ, List, [], ◌∷◌}

-- at (w, k) on the way to (t, h), where the run is left
abbrev pub limit : List Junction → List Junction → ℕ → ℕ
limit [] [] h = h
limit [] (t ∷ ts) h = t.taken
limit (p ∷ ps) [] h = h
limit (p ∷ ps) (t ∷ ts) h = limit ps ts h

count-erased : (f : Forks) → count (erased_forks f) ≡ count f
count-erased bare = refl
count-erased (fork f r i m) = ap suc (count-erased m)

path_erased : (b : PlainBranch) (t : List Junction) (h : ℕ) → IsPath b t h → IsPath (erased b) t h
path_erased b [] h q = let l = length-map b.run wiped in omega (arith, l, q)
path_erased b (p ∷ ps) h q =
    let l = length-map b.run wiped in
    let n = count-erased b.forks in
    let e = sym (fork_at-erased b.forks p.fork) in
    (omega (arith, l, q.0), omega (arith, n, q.1), subst (λ z. z.from ≡ p.taken) e q.2, subst (λ z. IsPath z ps h) e (path_erased (fork_at b.forks p.fork) ps h q.3))

path_back : (b : PlainBranch) (t : List Junction) (h : ℕ) → IsPath (erased b) t h → IsPath b t h
path_back b [] h q = let l = length-map b.run wiped in omega (arith, l, q)
path_back b (p ∷ ps) h q =
    let l = length-map b.run wiped in
    let n = count-erased b.forks in
    let e = fork_at-erased b.forks p.fork in
    (omega (arith, l, q.0), omega (arith, n, q.1), subst (λ z. z.from ≡ p.taken) e q.2, path_back (fork_at b.forks p.fork) ps h (subst (λ z. IsPath z ps h) e q.3))

-- a position of one tree is one of each tree with the same nodes
pub path_from : (b c : PlainBranch) (t : List Junction) (h : ℕ) → Same b c → IsPath c t h → IsPath b t h
path_from b c t h s q = path_back b t h (subst (λ z. IsPath z t h) s.shape (path_erased c t h q))

pub path_same : (b c : PlainBranch) (t : List Junction) (h : ℕ) → Same b c → IsPath b t h → IsPath c t h
path_same b c t h s q = path_back c t h (subst (λ z. IsPath z t h) (sym s.shape) (path_erased b t h q))

-- along the run
pub along_within : (b : PlainBranch) (w : List Junction) (k : ℕ) (t : List Junction) (h : ℕ) → IsPath b t h → IsOnWay w k t h → k < limit w t h → k < length (reach b w).run
along_within b [] k [] h q o l = omega (arith, q, l)
along_within b [] k (t ∷ ts) h q o l = let m = q.0 in omega (arith, m, l)
along_within b (p ∷ ps) k [] h q o l = absurd o
along_within b (p ∷ ps) k (t ∷ ts) h q o l =
    subst (λ z. k < length (reach (fork_at b.forks z.fork) ps).run) (sym o.0) (along_within (fork_at b.forks t.fork) ps k ts h q.3 o.1 l)

pub along_on : (w : List Junction) (k : ℕ) (t : List Junction) (h : ℕ) → IsOnWay w k t h → k < limit w t h → IsOnWay w (suc k) t h
along_on [] k [] h o l = omega (arith, l)
along_on [] k (t ∷ ts) h o l = omega (arith, l)
along_on (p ∷ ps) k [] h o l = absurd o
along_on (p ∷ ps) k (t ∷ ts) h o l = (o.0, along_on ps k ts h o.1 l)

-- into the next fork
pub enter_fork : (b : PlainBranch) (w : List Junction) (k : ℕ) (t : List Junction) (h : ℕ) (d : Junction) → IsPath b t h → IsOnWay w k t h → length w < length t → k ≡ limit w t h →
    ((get_or t (length w) d).fork < count (reach b w).forks) × ((fork_at (reach b w).forks (get_or t (length w) d).fork).from ≡ k) × (k ≡ (get_or t (length w) d).taken)
enter_fork b w k [] h d q o l e = absurd (omega (arith, l))
enter_fork b [] k (t ∷ ts) h d q o l e = (q.1, q.2 ∙ sym e, e)
enter_fork b (p ∷ ps) k (t ∷ ts) h d q o l e =
    subst (λ z. ((get_or ts (length ps) d).fork < count (reach (fork_at b.forks z.fork) ps).forks) × ((fork_at (reach (fork_at b.forks z.fork) ps).forks (get_or ts (length ps) d).fork).from ≡ k) × (k ≡ (get_or ts (length ps) d).taken)) (sym o.0)
    (enter_fork (fork_at b.forks t.fork) ps k ts h d q.3 o.1 (omega (arith, l)) e)

-- that fork has a node
inner_node : (b : PlainBranch) (t : List Junction) (h : ℕ) → IsPath b t h → Inner t h → 0 < length b.run
inner_node b [] h q i = omega (arith, q, i)
inner_node b (t ∷ ts) h q i = let l = q.0 in let m = i.0 in omega (arith, l, m)

enter_node_inner : (b : PlainBranch) (w t : List Junction) (k h : ℕ) (d : Junction) → IsPath b t h → IsOnWay w k t h → length w < length t → Inner t h → 0 < length (fork_at (reach b w).forks (get_or t (length w) d).fork).run
enter_node_inner b w [] k h d q o l i = absurd (omega (arith, l))
enter_node_inner b [] (t ∷ ts) k h d q o l i = inner_node (fork_at b.forks t.fork) ts h q.3 i.1
enter_node_inner b (p ∷ ps) (t ∷ ts) k h d q o l i =
    subst (λ z. 0 < length (fork_at (reach (fork_at b.forks z.fork) ps).forks (get_or ts (length ps) d).fork).run) (sym o.0) (enter_node_inner (fork_at b.forks t.fork) ps ts k h d q.3 o.1 (omega (arith, l)) i.1)

pub enter_node : (b : PlainBranch) (w t : List Junction) (k h : ℕ) (d : Junction) → IsPath b t h → IsOnWay w k t h → length w < length t → Proper t h → 0 < length (fork_at (reach b w).forks (get_or t (length w) d).fork).run
enter_node b w [] k h d q o l i = absurd (omega (arith, l))
enter_node b [] (t ∷ ts) k h d q o l i = inner_node (fork_at b.forks t.fork) ts h q.3 i
enter_node b (p ∷ ps) (t ∷ ts) k h d q o l i =
    subst (λ z. 0 < length (fork_at (reach (fork_at b.forks z.fork) ps).forks (get_or ts (length ps) d).fork).run) (sym o.0) (enter_node_inner (fork_at b.forks t.fork) ps ts k h d q.3 o.1 (omega (arith, l)) i)

-- at the end
pub arrived : (w t : List Junction) (k h : ℕ) → IsOnWay w k t h → length t ≤ length w → h ≤ k → (w ≡ t) × (k ≡ h)
arrived [] [] k h o l m = (refl, omega (arith, o, m))
arrived [] (t ∷ ts) k h o l m = absurd (omega (arith, l))
arrived (p ∷ ps) [] k h o l m = absurd o
arrived (p ∷ ps) (t ∷ ts) k h o l m = let r = arrived ps ts k h o.1 (omega (arith, l)) m in (ap (λ z. z ∷ ps) o.0 ∙ ap (λ z. t ∷ z) r.0, r.1)

pub on_limit : (w : List Junction) (k : ℕ) (t : List Junction) (h : ℕ) → IsOnWay w k t h → k ≤ limit w t h
on_limit [] k [] h o = o
on_limit [] k (t ∷ ts) h o = o
on_limit (p ∷ ps) k [] h o = absurd o
on_limit (p ∷ ps) k (t ∷ ts) h o = on_limit ps k ts h o.1

pub limit_in : (w : List Junction) (k : ℕ) (t : List Junction) (h : ℕ) (d : Junction) → length w < length t → limit w t h ≡ (get_or t (length w) d).taken
limit_in w k [] h d l = absurd (omega (arith, l))
limit_in [] k (t ∷ ts) h d l = refl
limit_in (p ∷ ps) k (t ∷ ts) h d l = limit_in ps k ts h d (omega (arith, l))

pub limit_end : (w : List Junction) (k : ℕ) (t : List Junction) (h : ℕ) → IsOnWay w k t h → length t ≤ length w → limit w t h ≡ h
limit_end [] k [] h o l = refl
limit_end [] k (t ∷ ts) h o l = absurd (omega (arith, l))
limit_end (p ∷ ps) k [] h o l = absurd o
limit_end (p ∷ ps) k (t ∷ ts) h o l = limit_end ps k ts h o.1 (omega (arith, l))

first_inner : (t : List Junction) (h : ℕ) → Inner t h → IsOnWay [] 1 t h
first_inner [] h i = omega (arith, i)
first_inner (t ∷ ts) h i = let l = i.0 in omega (arith, l)

enter_on_inner : (w t : List Junction) (k h : ℕ) (d : Junction) → IsOnWay w k t h → length w < length t → Inner t h → IsOnWay (w ++ get_or t (length w) d ∷ []) 1 t h
enter_on_inner w [] k h d o l i = absurd (omega (arith, l))
enter_on_inner [] (t ∷ ts) k h d o l i = (refl, first_inner ts h i.1)
enter_on_inner (p ∷ ps) (t ∷ ts) k h d o l i = (o.0, enter_on_inner ps ts k h d o.1 (omega (arith, l)) i.1)

pub enter_on : (w t : List Junction) (k h : ℕ) (d : Junction) → IsOnWay w k t h → length w < length t → Proper t h → IsOnWay (w ++ get_or t (length w) d ∷ []) 1 t h
enter_on w [] k h d o l i = absurd (omega (arith, l))
enter_on [] (t ∷ ts) k h d o l i = (refl, first_inner ts h i)
enter_on (p ∷ ps) (t ∷ ts) k h d o l i = (o.0, enter_on_inner ps ts k h d o.1 (omega (arith, l)) i)

pub on_depth : (w : List Junction) (k : ℕ) (t : List Junction) (h : ℕ) → IsOnWay w k t h → depth w k ≤ depth t h
on_depth [] k [] h o = o
on_depth [] k (t ∷ ts) h o = omega (arith, o)
on_depth (p ∷ ps) k [] h o = absurd o
on_depth (p ∷ ps) k (t ∷ ts) h o = let r = on_depth ps k ts h o.1 in let e = ap (λ z. z.taken) o.0 in omega (arith, r, e)

-- the root is on the way to everywhere
pub root_on : (w : List Junction) (k : ℕ) (t : List Junction) (h : ℕ) → w ≡ [] → k ≡ 0 → IsOnWay w k t h
root_on w k [] h e f = rw (e, f) (omega arith)
root_on w k (t ∷ ts) h e f = rw (e, f) (omega arith)

-- as the code reads the target: n is the level
pub at_end_of_way : (b : PlainBranch) (w t : List Junction) (k h : ℕ) → IsPath b t h → IsOnWay w k t h → length t ≤ length w → k < h → (k < length (reach b w).run) × IsOnWay w (suc k) t h
at_end_of_way b w t k h q o l m =
    let e = limit_end w k t h o l in
    let r : k < limit w t h = omega (arith, e, m) in
    (along_within b w k t h q o r, along_on w k t h o r)

pub at_level : (b : PlainBranch) (w t : List Junction) (k h n : ℕ) (d : Junction) → IsPath b t h → IsOnWay w k t h → n ≡ length w → n < length t → k < (get_or t n d).taken → (k < length (reach b w).run) × IsOnWay w (suc k) t h
at_level b w t k h n d q o e l m =
    let i = limit_in w k t h d (omega (arith, e, l)) ∙ ap (λ z. (get_or t z d).taken) (sym e) in
    let r : k < limit w t h = omega (arith, i, m) in
    (along_within b w k t h q o r, along_on w k t h o r)

pub at_fork : (b : PlainBranch) (w t : List Junction) (k h n : ℕ) (d : Junction) → IsPath b t h → Proper t h → IsOnWay w k t h → n ≡ length w → n < length t → (get_or t n d).taken ≤ k →
    ((get_or t n d).fork < count (reach b w).forks) × ((fork_at (reach b w).forks (get_or t n d).fork).from ≡ k) × (0 < length (fork_at (reach b w).forks (get_or t n d).fork).run)
    × IsOnWay (w ++ record { taken = k; fork = (get_or t n d).fork } ∷ []) 1 t h
at_fork b w t k h n d q i o e l m =
    let g : length w < length t = omega (arith, e, l) in
    let j = limit_in w k t h d g ∙ ap (λ z. (get_or t z d).taken) (sym e) in
    let u = on_limit w k t h o in
    let f : k ≡ limit w t h = omega (arith, j, u, m) in
    let p = enter_fork b w k t h d q o g f in
    let x : k ≡ (get_or t n d).taken = omega (arith, j, u, m) in
    rw e (p.0, p.1, enter_node b w t k h d q o g i, subst (λ z. IsOnWay (w ++ record { taken = z; fork = (get_or t (length w) d).fork } ∷ []) 1 t h) (sym p.2) (enter_on w t k h d o g i))
