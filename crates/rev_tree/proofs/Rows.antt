-- How the rows of a tree change, and that the state along the tree is the state from scratch.
use Rattle.std.proofs.Common.{◌≡◌, ℕ, suc, zero, ◌<◌, ◌≤◌, Bool, true, false, cond, eqb, List, [], ◌∷◌, ◌++◌, length, get_or, set, refl, ap, sym, ◌∙◌, subst, arith, Option, Some, None}
use Rattle.rev_tree.specs.Steps.{State, PlainRecord, next}
use Rattle.rev_tree.specs.Tree.{PlainNode, PlainBranch, Forks, bare, fork, fork_at, put_fork, add_fork, count}
use Rattle.rev_tree.specs.Ways.{reach, at_end, no_node}
use Rattle.rev_tree.specs.States.{after, AllAhead, Context, state_at}
use Rattle.rev_tree.specs.Rows.{Row, row_of, state_from, at_within, at, RowsFall, row, number_after, start_at, or_else, find_run, find_forks, find_in, KnownRun, KnownForks, Known}
use Rattle.rev_tree.proofs.States.{node_with}
use Rattle.rev_tree.specs.declared.junction.Junction.{Junction}
use Rattle.std.specs.Prelude.{Bool, false, List, [], ◌∷◌}

-- whether the first node of the branch at the end of a way continues a run: only that of the base branch does
abbrev pub first_continues : Bool → List Junction → Bool
first_continues c [] = c
first_continues c (q ∷ qs) = first_continues false qs

-- the state from scratch, step by step
state_from-same : (o : Option Row) (s : State) (f g : Row → State) → ((r : Row) → o ≡ Some r → f r ≡ g r) → state_from o s f ≡ state_from o s g
state_from-same None s f g h = refl
state_from-same (Some r) s f g h = h r refl

at-enough : (root : State) (rows : List (Option Row)) → RowsFall rows → (k j n : ℕ) → n ≤ k → n ≤ j → at_within k root rows n ≡ at_within j root rows n
at-enough root rows w zero zero n h g = refl
at-enough root rows w zero (suc j) zero h g = refl
at-enough root rows w zero (suc j) (suc n) h g = absurd (omega arith)
at-enough root rows w (suc k) zero zero h g = refl
at-enough root rows w (suc k) zero (suc n) h g = absurd (omega arith)
at-enough root rows w (suc k) (suc j) n h g =
    state_from-same (row_of rows n) root _ _ (λ r e. let l = w n r e in ap (λ z. next z r.step) (at-enough root rows w k j r.parent (omega arith) (omega arith)))

pub at-zero : (root : State) (rows : List (Option Row)) → at root rows 0 ≡ root
unfolding at
at-zero root rows = refl

pub at-step : (root : State) (rows : List (Option Row)) → RowsFall rows → (n : ℕ) (r : Row) → row_of rows n ≡ Some r → at root rows n ≡ next (at root rows r.parent) r.step
unfolding at
at-step root rows w zero r e = cc
at-step root rows w (suc m) r e =
    let l = w (suc m) r e in
    ap (λ z. state_from z root (λ q. next (at_within m root rows q.parent) q.step)) e ∙ ap (λ z. next z r.step) (at-enough root rows w m r.parent r.parent (omega arith) (omega arith))

pub at-run : (root s : State) (rows : List (Option Row)) → RowsFall rows → (k p : ℕ) (c : Bool) (run : List PlainNode) → at root rows p ≡ s → KnownRun rows p c run → at root rows (number_after p k run) ≡ after s k run
at-run root s rows w zero p c run h q = h
at-run root s rows w (suc k) p c [] h q = h
at-run root s rows w (suc k) p c (e ∷ es) h q =
    at-run root (next s e.step) rows w k e.number true es (at-step root rows w e.number (row p e.step c) q.0 ∙ ap (λ z. next z e.step) h) q.1

-- what is known of one fork
pub Known-fork : (rows : List (Option Row)) (p : ℕ) (run : List PlainNode) (f : Forks) (i : ℕ) → i < count f → KnownForks rows p run f → Known rows (number_after p (fork_at f i).from run) false (fork_at f i)
Known-fork rows p run bare i l h = absurd (omega arith)
Known-fork rows p run (fork f r j m) zero l h = (h.0, h.1)
Known-fork rows p run (fork f r j m) (suc i) l h = Known-fork rows p run m i (omega arith) h.2

pub Known-down : (rows : List (Option Row)) (s : State) (p : ℕ) (b : PlainBranch) (q : Junction) (qs : List Junction) → Context s b (q ∷ qs) → KnownForks rows p b.run b.forks → Known rows (number_after p q.taken b.run) false (fork_at b.forks q.fork)
Known-down rows s p b q qs h k = rw h.4 at (Known-fork rows p b.run b.forks q.fork h.3 k)

-- the state along the tree is the state from scratch
pub at-way : (root s : State) (rows : List (Option Row)) → RowsFall rows → (p : ℕ) (c : Bool) (b : PlainBranch) (w : List Junction) (here : ℕ) → Context s b w → at root rows p ≡ s → Known rows p c b → at root rows (number_after (start_at p b w) here (reach b w).run) ≡ state_at s b w here
at-way root s rows f p c b [] here h e k = at-run root s rows f here p c b.run e k.0
at-way root s rows f p c b (q ∷ qs) here h e k =
    at-way root (after s q.taken b.run) rows f (number_after p q.taken b.run) false (fork_at b.forks q.fork) qs here h.5 (at-run root s rows f q.taken p c b.run e k.0) (Known-down rows s p b q qs h k.1)

-- a run after a change
pub number_after-set : (p : ℕ) (run : List PlainNode) (k j : ℕ) (r : PlainRecord) → number_after p j (set run k (node_with (get_or run k no_node) r)) ≡ number_after p j run
number_after-set p run k zero r = refl
number_after-set p [] k (suc j) r = refl
number_after-set p (e ∷ es) zero (suc j) r = refl
number_after-set p (e ∷ es) (suc k) (suc j) r = number_after-set e.number es k j r

pub number_after-append : (p : ℕ) (run more : List PlainNode) (j : ℕ) → j ≤ length run → number_after p j (run ++ more) ≡ number_after p j run
number_after-append p run more zero h = refl
number_after-append p [] more (suc j) h = absurd (omega arith)
number_after-append p (e ∷ es) more (suc j) h = number_after-append e.number es more j (omega arith)

pub find_run-set : (n p : ℕ) (c : Bool) (run : List PlainNode) (k : ℕ) (r : PlainRecord) → find_run n p c (set run k (node_with (get_or run k no_node) r)) ≡ find_run n p c run
find_run-set n p c [] k r = refl
find_run-set n p c (e ∷ es) zero r = refl
find_run-set n p c (e ∷ es) (suc k) r = ap (λ z. cond (eqb n e.number) (Some (row p e.step c)) z) (find_run-set n e.number true es k r)

pub find_run-other : (n p : ℕ) (c : Bool) (run : List PlainNode) (e : PlainNode) → eqb n e.number ≡ false → find_run n p c (run ++ e ∷ []) ≡ find_run n p c run
find_run-other n p c [] e h = rw h refl
find_run-other n p c (d ∷ ds) e h = ap (λ z. cond (eqb n d.number) (Some (row p d.step c)) z) (find_run-other n d.number true ds e h)

abbrev pub goes_on : Bool → List PlainNode → Bool
goes_on c [] = c
goes_on c (d ∷ ds) = true

pub cond-none : (b : Bool) (r : Row) (o : Option Row) → cond b (Some r) o ≡ None → (b ≡ false) × (o ≡ None)
cond-none true r o h = cc
cond-none false r o h = (refl, h)

pub goes_on-true : (ds : List PlainNode) → goes_on true ds ≡ true
goes_on-true [] = refl
goes_on-true (d ∷ ds) = refl

pub find_run-new : (n p : ℕ) (c : Bool) (run : List PlainNode) (e : PlainNode) → eqb n e.number ≡ true → find_run n p c run ≡ None → find_run n p c (run ++ e ∷ []) ≡ Some (row (number_after p (length run) run) e.step (goes_on c run))
find_run-new n p c [] e h o = rw h refl
find_run-new n p c (d ∷ ds) e h o =
    let k = cond-none (eqb n d.number) (row p d.step c) (find_run n d.number true ds) o in
    rw k.0 (find_run-new n d.number true ds e h k.1 ∙ ap (λ z. Some (row (number_after d.number (length ds) ds) e.step z)) (goes_on-true ds))

pub find_forks-over : (s : State) (n p : ℕ) (run more : List PlainNode) (f : Forks) → ((j : ℕ) → j ≤ length run → number_after p j more ≡ number_after p j run) → AllAhead s run f → find_forks n p more f ≡ find_forks n p run f
find_forks-over s n p run more bare e h = refl
find_forks-over s n p run more (fork f r i m) e h =
    ap (λ z. or_else (or_else (find_run n z false r) (find_forks n z r i)) (find_forks n p more m)) (e f h.0)
    ∙ ap (λ z. or_else (or_else (find_run n (number_after p f run) false r) (find_forks n (number_after p f run) r i)) z) (find_forks-over s n p run more m e h.3)

-- a change at the end of a way that keeps the row of n
find-put : (n p : ℕ) (run : List PlainNode) (f : Forks) (i : ℕ) (x : PlainBranch) → x.from ≡ (fork_at f i).from → ((q : ℕ) → find_in n q false x ≡ find_in n q false (fork_at f i)) → find_forks n p run (put_fork f i x) ≡ find_forks n p run f
find-put n p run bare i x e h = refl
find-put n p run (fork f r j m) zero x e h =
    ap (λ z. or_else z (find_forks n p run m)) (h (number_after p x.from run) ∙ ap (λ z. find_in n (number_after p z run) false (record { from = f; run = r; forks = j })) e)
find-put n p run (fork f r j m) (suc i) x e h =
    ap (λ z. or_else (or_else (find_run n (number_after p f run) false r) (find_forks n (number_after p f run) r j)) z) (find-put n p run m i x e h)

pub from-at_end' : (f : PlainBranch → PlainBranch) (b : PlainBranch) (w : List Junction) → ((c : PlainBranch) → (f c).from ≡ c.from) → (at_end f b w).from ≡ b.from
from-at_end' f b [] h = h b
from-at_end' f b (p ∷ ps) h = refl

pub find-at_end : (f : PlainBranch → PlainBranch) (n p : ℕ) (c : Bool) (b : PlainBranch) (w : List Junction) → ((d : PlainBranch) → (f d).from ≡ d.from) → ((q : ℕ) (d : Bool) → find_in n q d (f (reach b w)) ≡ find_in n q d (reach b w)) → find_in n p c (at_end f b w) ≡ find_in n p c b
find-at_end f n p c b [] k h = h p c
find-at_end f n p c b (q ∷ qs) k h =
    ap (λ z. or_else (find_run n p c b.run) z) (find-put n p b.run b.forks q.fork _ (from-at_end' f (fork_at b.forks q.fork) qs k) (λ m. find-at_end f n m false (fork_at b.forks q.fork) qs k h))

-- a change at the end of a way that gives n its row
pub or_else-none : (a b : Option Row) → or_else a b ≡ None → (a ≡ None) × (b ≡ None)
or_else-none None b h = (refl, h)
or_else-none (Some r) b h = cc

pub fork-none : (n p : ℕ) (run : List PlainNode) (f : Forks) (i : ℕ) → i < count f → find_forks n p run f ≡ None → find_in n (number_after p (fork_at f i).from run) false (fork_at f i) ≡ None
fork-none n p run bare i l h = absurd (omega arith)
fork-none n p run (fork f r j m) zero l h = (or_else-none _ _ h).0
fork-none n p run (fork f r j m) (suc i) l h = fork-none n p run m i (omega arith) (or_else-none _ _ h).1

put-new : (n p : ℕ) (run : List PlainNode) (f : Forks) (i : ℕ) (x : PlainBranch) (r : Row) → i < count f → find_forks n p run f ≡ None → find_in n (number_after p x.from run) false x ≡ Some r → find_forks n p run (put_fork f i x) ≡ Some r
put-new n p run bare i x r l h e = absurd (omega arith)
put-new n p run (fork f s j m) zero x r l h e = ap (λ z. or_else z (find_forks n p run m)) e
put-new n p run (fork f s j m) (suc i) x r l h e =
    let k = or_else-none _ _ h in
    ap (λ z. or_else z (find_forks n p run (put_fork m i x))) k.0 ∙ put-new n p run m i x r (omega arith) k.1 e

pub find-new : (f : PlainBranch → PlainBranch) (s : State) (n p : ℕ) (c : Bool) (b : PlainBranch) (w : List Junction) (r : Row) → ((d : PlainBranch) → (f d).from ≡ d.from) → Context s b w → find_in n p c b ≡ None →
    (find_in n (start_at p b w) (first_continues c w) (reach b w) ≡ None → find_in n (start_at p b w) (first_continues c w) (f (reach b w)) ≡ Some r) → find_in n p c (at_end f b w) ≡ Some r
find-new f s n p c b [] r k h o e = e o
find-new f s n p c b (q ∷ qs) r k h o e =
    let z = or_else-none _ _ o in
    let t = rw h.4 at (fork-none n p b.run b.forks q.fork h.3 z.1) in
    let u = find-new f (after s q.taken b.run) n (number_after p q.taken b.run) false (fork_at b.forks q.fork) qs r k h.5 t e in
    let v = from-at_end' f (fork_at b.forks q.fork) qs k ∙ h.4 in
    ap (λ y. or_else y (find_forks n p b.run (put_fork b.forks q.fork (at_end f (fork_at b.forks q.fork) qs)))) z.0
    ∙ put-new n p b.run b.forks q.fork _ r h.3 z.1 (rw v u)

-- what is known, after a change at the end of a way
pub Known-reach : (rows : List (Option Row)) (s : State) (p : ℕ) (c : Bool) (b : PlainBranch) (w : List Junction) → Context s b w → Known rows p c b → Known rows (start_at p b w) (first_continues c w) (reach b w)
Known-reach rows s p c b [] h k = k
Known-reach rows s p c b (q ∷ qs) h k = Known-reach rows (after s q.taken b.run) (number_after p q.taken b.run) false (fork_at b.forks q.fork) qs h.5 (Known-down rows s p b q qs h k.1)

Known-put : (rows : List (Option Row)) (p : ℕ) (run : List PlainNode) (f : Forks) (i : ℕ) (x : PlainBranch) → KnownForks rows p run f → Known rows (number_after p x.from run) false x → KnownForks rows p run (put_fork f i x)
Known-put rows p run bare i x h k = tt
Known-put rows p run (fork f r j m) zero x h k = (k.0, k.1, h.2)
Known-put rows p run (fork f r j m) (suc i) x h k = (h.0, h.1, Known-put rows p run m i x h.2 k)

pub Known-at_end : (f : PlainBranch → PlainBranch) (rows : List (Option Row)) (s : State) (p : ℕ) (c : Bool) (b : PlainBranch) (w : List Junction) → ((d : PlainBranch) → (f d).from ≡ d.from) → Context s b w → Known rows p c b → Known rows (start_at p b w) (first_continues c w) (f (reach b w)) → Known rows p c (at_end f b w)
Known-at_end f rows s p c b [] g h k e = e
Known-at_end f rows s p c b (q ∷ qs) g h k e =
    let u = Known-at_end f rows (after s q.taken b.run) (number_after p q.taken b.run) false (fork_at b.forks q.fork) qs g h.5 (Known-down rows s p b q qs h k.1) e in
    let v = from-at_end' f (fork_at b.forks q.fork) qs g ∙ h.4 in
    (k.0, Known-put rows p b.run b.forks q.fork _ k.1 (rw v u))

-- locally: a record turned, a node pushed, a fork made
pub KnownRun-set : (rows : List (Option Row)) (p : ℕ) (c : Bool) (run : List PlainNode) (k : ℕ) (r : PlainRecord) → KnownRun rows p c run → KnownRun rows p c (set run k (node_with (get_or run k no_node) r))
KnownRun-set rows p c [] k r h = h
KnownRun-set rows p c (e ∷ es) zero r h = h
KnownRun-set rows p c (e ∷ es) (suc k) r h = (h.0, KnownRun-set rows e.number true es k r h.1)

pub KnownRun-push : (rows : List (Option Row)) (p : ℕ) (c : Bool) (run : List PlainNode) (e : PlainNode) → KnownRun rows p c run → row_of rows e.number ≡ Some (row (number_after p (length run) run) e.step (goes_on c run)) → KnownRun rows p c (run ++ e ∷ [])
KnownRun-push rows p c [] e h k = (k, tt)
KnownRun-push rows p c (d ∷ ds) e h k =
    (h.0, KnownRun-push rows d.number true ds e h.1 (k ∙ ap (λ z. Some (row (number_after d.number (length ds) ds) e.step z)) (sym (goes_on-true ds))))

pub KnownForks-over : (rows : List (Option Row)) (s : State) (p : ℕ) (run more : List PlainNode) (f : Forks) → ((j : ℕ) → j ≤ length run → number_after p j more ≡ number_after p j run) → AllAhead s run f → KnownForks rows p run f → KnownForks rows p more f
KnownForks-over rows s p run more bare e h k = tt
KnownForks-over rows s p run more (fork f r i m) e h k =
    let q = sym (e f h.0) in
    (subst (λ z. KnownRun rows z false r) q k.0, subst (λ z. KnownForks rows z r i) q k.1, KnownForks-over rows s p run more m e h.3 k.2)

pub KnownForks-add : (rows : List (Option Row)) (p : ℕ) (run : List PlainNode) (f : Forks) (x : PlainBranch) → KnownForks rows p run f → Known rows (number_after p x.from run) false x → KnownForks rows p run (add_fork f x)
KnownForks-add rows p run bare x h k = (k.0, k.1, tt)
KnownForks-add rows p run (fork f r i m) x h k = (h.0, h.1, KnownForks-add rows p run m x h.2 k)

pub find_forks-add_other : (n p : ℕ) (run : List PlainNode) (f : Forks) (x : PlainBranch) → ((q : ℕ) → find_in n q false x ≡ None) → find_forks n p run (add_fork f x) ≡ find_forks n p run f
find_forks-add_other n p run bare x h = ap (λ z. or_else z None) (h (number_after p x.from run))
find_forks-add_other n p run (fork f r i m) x h = ap (λ z. or_else (or_else (find_run n (number_after p f run) false r) (find_forks n (number_after p f run) r i)) z) (find_forks-add_other n p run m x h)

pub find_forks-add_new : (n p : ℕ) (run : List PlainNode) (f : Forks) (x : PlainBranch) (r : Row) → find_forks n p run f ≡ None → find_in n (number_after p x.from run) false x ≡ Some r → find_forks n p run (add_fork f x) ≡ Some r
find_forks-add_new n p run bare x r h e = ap (λ z. or_else z None) e
find_forks-add_new n p run (fork f s i m) x r h e =
    let k = or_else-none _ _ h in
    ap (λ z. or_else z (find_forks n p run (add_fork m x))) k.0 ∙ find_forks-add_new n p run m x r k.1 e

-- more rows
pub row_of-more : (rows : List (Option Row)) (o : Option Row) (n : ℕ) (r : Row) → row_of rows n ≡ Some r → row_of (rows ++ o ∷ []) n ≡ Some r
row_of-more rows o zero r h = cc
row_of-more [] o (suc n) r h = cc
row_of-more (q ∷ qs) o (suc zero) r h = h
row_of-more (q ∷ qs) o (suc (suc n)) r h = row_of-more qs o (suc n) r h

pub KnownRun-more : (rows : List (Option Row)) (o : Option Row) (p : ℕ) (c : Bool) (run : List PlainNode) → KnownRun rows p c run → KnownRun (rows ++ o ∷ []) p c run
KnownRun-more rows o p c [] h = tt
KnownRun-more rows o p c (e ∷ es) h = (row_of-more rows o e.number _ h.0, KnownRun-more rows o e.number true es h.1)

pub KnownForks-more : (rows : List (Option Row)) (o : Option Row) (p : ℕ) (run : List PlainNode) (f : Forks) → KnownForks rows p run f → KnownForks (rows ++ o ∷ []) p run f
KnownForks-more rows o p run bare h = tt
KnownForks-more rows o p run (fork f r i m) h = (KnownRun-more rows o _ false r h.0, KnownForks-more rows o _ r i h.1, KnownForks-more rows o p run m h.2)
