-- One step of a store that stands in a tree.
use Rattle.std.proofs.Common.{◌≡◌, ℕ, suc, zero, ◌<◌, ◌≤◌, Bool, true, List, [], ◌∷◌, ◌++◌, length, map, get_or, set, refl, ap, sym, ◌∙◌, subst, arith, Option, Some}
use Rattle.std.proofs.lemmas.List.{append-nil}
use Rattle.rev_tree.specs.Steps.{State, PlainRecord, Fits, turned}
use Rattle.rev_tree.specs.Tree.{PlainNode, PlainBranch, Forks, bare, fork, fork_at, put_fork, count}
use Rattle.rev_tree.specs.Ways.{reach, IsWay, at_end, undo_of, with_undo, no_node}
use Rattle.rev_tree.specs.States.{base_at, rewind}
use Rattle.rev_tree.specs.Rows.{Row, at, RowsFall, number_after, start_at, number_at, find_in, find_run, find_forks, or_else, rows_of, Known, KnownRun, parent_of, option_parent}
use Rattle.rev_tree.specs.Positions.{SessionState, wiped, erased, erased_forks, Stands, Same, Moved, Kept, Proper, Inner, Below, along, fork_off}
use Rattle.rev_tree.proofs.States.{node_with, IsWay-context, ends_back, ends_forth, Holds-at_end, state_at-at_end, after-set, entered, left, rewind-state_at, base_at-more, reach-more}
use Rattle.rev_tree.proofs.Rows.{find-at_end, find_run-set, find_forks-over, number_after-set, Known-at_end, Known-reach, KnownRun-set, KnownForks-over, at-way, at-zero}
use Rattle.rev_tree.proofs.Fits.{fitted_same}
use Rattle.rev_tree.specs.declared.junction.Junction.{Junction}

pub stands_way : (root t : State) (b : PlainBranch) (w : List Junction) (k : ℕ) → Stands root t b w k → IsWay b w
stands_way root t b w k h = IsWay-context root b w h.holds.context

pub stands_root : (root t : State) (b : PlainBranch) (w : List Junction) (k : ℕ) → Stands root t b w k → rewind b w k t ≡ root
stands_root root t b w k h = ap (λ z. rewind b w k z) h.now_at ∙ rewind-state_at root b w k h.holds.context h.holds.ends

pub back_fits : (root t : State) (b : PlainBranch) (w : List Junction) (k : ℕ) → Stands root t b w (suc k) → Fits (undo_of (reach b w).run k) t
back_fits root t b w k h = rw h.now_at (ends_back (base_at root b w) (reach b w) k h.holds.ends).0.fits

pub forth_fits : (root t : State) (b : PlainBranch) (w : List Junction) (k : ℕ) → k < length (reach b w).run → Stands root t b w k → Fits (undo_of (reach b w).run k) t
forth_fits root t b w k l h = rw h.now_at (ends_forth (base_at root b w) (reach b w) k l h.holds.ends).0.fits

pub stands_back : (root t : State) (b : PlainBranch) (w : List Junction) (k : ℕ) → Stands root t b w (suc k) →
    Stands root (turned (undo_of (reach b w).run k) t).0 (at_end (with_undo k (turned (undo_of (reach b w).run k) t).1) b w) w k
stands_back root t b w k h =
    let e = ends_back (base_at root b w) (reach b w) k h.holds.ends in
    let q = stands_way root t b w (suc k) h in
    let r = undo_of (reach b w).run k in
    record {
      holds = Holds-at_end (with_undo k (turned r t).1) root b w (suc k) k (λ c. refl) h.holds (rw h.now_at e.1);
      now_at = ap (λ z. (turned r z).0) h.now_at ∙ e.0.there ∙ sym (state_at-at_end (with_undo k (turned r t).1) root b w k q ∙ after-set (base_at root b w) (reach b w).run k k (turned r t).1);
    }

pub stands_forth : (root t : State) (b : PlainBranch) (w : List Junction) (k : ℕ) → k < length (reach b w).run → Stands root t b w k →
    Stands root (turned (undo_of (reach b w).run k) t).0 (at_end (with_undo k (turned (undo_of (reach b w).run k) t).1) b w) w (suc k)
stands_forth root t b w k l h =
    let e = ends_forth (base_at root b w) (reach b w) k l h.holds.ends in
    let q = stands_way root t b w k h in
    let r = undo_of (reach b w).run k in
    record {
      holds = Holds-at_end (with_undo k (turned r t).1) root b w k (suc k) (λ c. refl) h.holds (rw h.now_at e.1);
      now_at = ap (λ z. (turned r z).0) h.now_at ∙ e.0.there ∙ sym (state_at-at_end (with_undo k (turned r t).1) root b w (suc k) q ∙ after-set (base_at root b w) (reach b w).run k (suc k) (turned r t).1);
    }

pub stands_entered : (root t : State) (b : PlainBranch) (w : List Junction) (p : Junction) → p.fork < count (reach b w).forks → (fork_at (reach b w).forks p.fork).from ≡ p.taken → Stands root t b w p.taken → Stands root t b (w ++ p ∷ []) 0
stands_entered root t b w p l e h = record {
  holds = entered root b w p h.holds l e;
  now_at = h.now_at ∙ sym (base_at-more root b w p);
}

pub stands_left : (root t : State) (b : PlainBranch) (w : List Junction) (p : Junction) → Stands root t b (w ++ p ∷ []) 0 → Stands root t b w p.taken
stands_left root t b w p h = record {
  holds = left root b w p h.holds;
  now_at = h.now_at ∙ base_at-more root b w p;
}

-- a record turned changes nothing but records
wiped-set : (run : List PlainNode) (k : ℕ) (r : PlainRecord) → map wiped (set run k (node_with (get_or run k no_node) r)) ≡ map wiped run
wiped-set [] k r = refl
wiped-set (e ∷ es) zero r = refl
wiped-set (e ∷ es) (suc k) r = ap (λ z. wiped e ∷ z) (wiped-set es k r)

erased-put : (f : Forks) (i : ℕ) (x : PlainBranch) → erased x ≡ erased (fork_at f i) → erased_forks (put_fork f i x) ≡ erased_forks f
erased-put bare i x h = refl
erased-put (fork f r j m) zero x h = ap (λ z. fork z.from z.run z.forks (erased_forks m)) h
erased-put (fork f r j m) (suc i) x h = ap (λ z. fork f (map wiped r) (erased_forks j) z) (erased-put m i x h)

pub erased-at_end : (k : ℕ) (r : PlainRecord) (b : PlainBranch) (w : List Junction) → erased (at_end (with_undo k r) b w) ≡ erased b
erased-at_end k r b [] = ap (λ z. let y : PlainBranch = record { from = b.from; run = z; forks = erased_forks b.forks } in y) (wiped-set b.run k r)
erased-at_end k r b (p ∷ ps) = ap (λ z. let y : PlainBranch = record { from = b.from; run = map wiped b.run; forks = z } in y) (erased-put b.forks p.fork _ (erased-at_end k r (fork_at b.forks p.fork) ps))

-- a record turned changes no row
pub same_turned : (root t : State) (b : PlainBranch) (w : List Junction) (j k : ℕ) (r : PlainRecord) → Stands root t b w j → Same b (at_end (with_undo k r) b w)
same_turned root t b w j k r h =
    let a = h.holds.ends.2 in
    let c = reach b w in
    record {
      shape = erased-at_end k r b w;
      finds = λ n. find-at_end (with_undo k r) n 0 true b w (λ d. refl) (λ q d.
          ap (λ z. or_else z (find_forks n q (set c.run k (node_with (get_or c.run k no_node) r)) c.forks)) (find_run-set n q d c.run k r)
          ∙ ap (λ z. or_else (find_run n q d c.run) z) (find_forks-over (base_at root b w) n q c.run _ c.forks (λ i g. number_after-set q c.run k i r) a));
      known = λ rows g.
          let f = Known-reach rows root 0 true b w h.holds.context g in
          Known-at_end (with_undo k r) rows root 0 true b w (λ d. refl) h.holds.context g
          (KnownRun-set rows _ _ c.run k r f.0, KnownForks-over rows (base_at root b w) _ c.run _ c.forks (λ i g. number_after-set (start_at 0 b w) c.run k i r) a f.1);
    }

-- the same nodes have the same rows
pub rows_of-same : (b c : PlainBranch) (k : ℕ) → Same b c → rows_of k c ≡ rows_of k b
unfolding rows_of
rows_of-same b c zero h = refl
rows_of-same b c (suc k) h = ap (λ z. z ++ (find_in (suc k) 0 true c ∷ [])) (rows_of-same b c k h) ∙ ap (λ z. rows_of k b ++ (z ∷ [])) (h.finds (suc k))

-- the headline: the store is the state from scratch
pub stands_at : (root t : State) (b : PlainBranch) (w : List Junction) (k issued : ℕ) → Kept root t b w k issued → t ≡ at root (rows_of issued b) (number_at b w k)
stands_at root t b w k issued h =
    h.stands.now_at ∙ sym (at-way root root (rows_of issued b) h.falls 0 true b w k h.stands.holds.context (at-zero root (rows_of issued b)) h.known)

-- a session after a step to another position of the same nodes
pub kept_moved : (root t u : State) (b c : PlainBranch) (w v : List Junction) (j k issued : ℕ) → Kept root t b w j issued → Same b c → Proper v k → Stands root u c v k → Kept root u c v k issued
kept_moved root t u b c w v j k issued h s p q =
    let e = sym (rows_of-same b c issued s) in
    record {
      sound = h.sound;
      stands = q;
      proper = p;
      few = h.few;
      fitted = fitted_same b c s h.fitted;
      falls = subst (λ z. RowsFall z) e h.falls;
      known = s.known (rows_of issued c) (subst (λ z. Known z 0 true b) e h.known);
    }

-- the code's step back, and its step forth
pub back_step : (root t : State) (b : PlainBranch) (w : List Junction) (here at : ℕ) (u : State) (c : PlainBranch) (x : List Junction) → here ≡ suc at → Stands root t b w here → x ≡ w →
    u ≡ (turned (undo_of (reach b x).run at) t).0 → c ≡ at_end (with_undo at (turned (undo_of (reach b x).run at) t).1) b x → Stands root u c w at × Same b c
back_step root t b w here at u c x e h ex eu ec =
    let k = subst (λ z. Stands root t b w z) e h in
    let p = stands_back root t b w at k in
    let q = same_turned root t b w (suc at) at (turned (undo_of (reach b w).run at) t).1 k in
    (rw (eu, ec, ex) p, rw (ec, ex) q)

pub forth_step : (root t : State) (b : PlainBranch) (w : List Junction) (at now : ℕ) (u : State) (c : PlainBranch) (x : List Junction) → now ≡ suc at → at < length (reach b w).run → Stands root t b w at → x ≡ w →
    u ≡ (turned (undo_of (reach b x).run at) t).0 → c ≡ at_end (with_undo at (turned (undo_of (reach b x).run at) t).1) b x → Stands root u c w now × Same b c
forth_step root t b w at now u c x e l h ex eu ec =
    let p = stands_forth root t b w at l h in
    let q = same_turned root t b w at at (turned (undo_of (reach b w).run at) t).1 h in
    (rw (eu, ec, ex, e) p, rw (ec, ex) q)

-- a proper position, and the one above it
pub Inner-more : (w : List Junction) (p : Junction) (k : ℕ) → Inner (w ++ p ∷ []) k → Inner w p.taken
Inner-more [] p k h = h.0
Inner-more (q ∷ qs) p k h = (h.0, Inner-more qs p k h.1)

pub Proper-more : (w : List Junction) (p : Junction) (k : ℕ) → Proper (w ++ p ∷ []) k → Proper w p.taken
Proper-more [] p k h = tt
Proper-more (q ∷ qs) p k h = Inner-more qs p k h

pub Inner-at : (w : List Junction) (j k : ℕ) → 0 < k → Inner w j → Inner w k
Inner-at [] j k l h = l
Inner-at (p ∷ ps) j k l h = (h.0, Inner-at ps j k l h.1)

pub Proper-at : (w : List Junction) (j k : ℕ) → 0 < k → Proper w j → Proper w k
Proper-at [] j k l h = tt
Proper-at (p ∷ ps) j k l h = Inner-at ps j k l h

pub Inner-end : (w : List Junction) (p : Junction) (k : ℕ) → 0 < k → Inner w p.taken → Inner (w ++ p ∷ []) k
Inner-end [] p k l h = (h, l)
Inner-end (q ∷ qs) p k l h = (h.0, Inner-end qs p k l h.1)

pub Proper-end : (w : List Junction) (p : Junction) (k : ℕ) → 0 < k → Proper w p.taken → Proper (w ++ p ∷ []) k
Proper-end [] p k l h = l
Proper-end (q ∷ qs) p k l h = Inner-end qs p k l h

pub back_fits_at : (root t : State) (b : PlainBranch) (w : List Junction) (here at : ℕ) (x : List Junction) → here ≡ suc at → x ≡ w → Stands root t b w here → Fits (undo_of (reach b x).run at) t
back_fits_at root t b w here at x e ex h = rw ex (back_fits root t b w at (subst (λ z. Stands root t b w z) e h))

-- out of a fork, as the code pops its place
pub back_leave : (root u : State) (b c : PlainBranch) (w v : List Junction) (p : Junction) (here at : ℕ) → here ≡ suc at → at ≡ 0 → w ≡ v ++ p ∷ [] → Proper w here → Stands root u c w at × Same b c → Moved root b u c v p.taken
back_leave root u b c w v p here at e z ew q h = record {
  stands = stands_left root u c v p (rw (← ew, ← z) h.0);
  same = h.1;
  proper = Proper-more v p here (rw (← ew) q);
}

pub below_leave : (w v : List Junction) (p : Junction) (here at : ℕ) → here ≡ suc at → at ≡ 0 → w ≡ v ++ p ∷ [] → Below v p.taken w here
below_leave w v p here at e z ew = rw (e, z, ew) (fork_off p)

-- at the first run there is nothing to pop
pub no_way : (w : List Junction) → (0 < length w → ⊥) → w ≡ []
no_way [] h = refl
no_way (p ∷ ps) h = absurd (h (omega arith))

pub back_stay : (root u : State) (b c : PlainBranch) (w v : List Junction) (at : ℕ) → w ≡ v ++ [] → (0 < length w → ⊥) → Stands root u c w at × Same b c → Moved root b u c v at
back_stay root u b c w v at ew n h =
    let e : v ≡ w = sym (ew ∙ append-nil v) in
    record { stands = rw e h.0; same = h.1; proper = rw (e, no_way w n) tt }

pub below_stay : (w v : List Junction) (here at : ℕ) → here ≡ suc at → w ≡ v ++ [] → Below v at w here
below_stay w v here at e ew = rw (e, ew, append-nil) along

pub below_along : (w : List Junction) (here at : ℕ) → here ≡ suc at → Below w at w here
below_along w here at e = rw e along

Inner-zero : (w : List Junction) → Inner w 0 → ⊥
Inner-zero [] h = omega (arith, h)
Inner-zero (p ∷ ps) h = Inner-zero ps h.1

pub Proper-zero : (w : List Junction) → Proper w 0 → w ≡ []
Proper-zero [] h = refl
Proper-zero (p ∷ ps) h = absurd (Inner-zero ps h)

pub start_at-more : (p : ℕ) (b : PlainBranch) (w : List Junction) (q : Junction) → start_at p b (w ++ q ∷ []) ≡ number_after (start_at p b w) q.taken (reach b w).run
start_at-more p b [] q = refl
start_at-more p b (r ∷ rs) q = start_at-more (number_after p r.taken b.run) (fork_at b.forks r.fork) rs q

-- the row of a node in a run
run_row : (rows : List (Option Row)) (p k : ℕ) (c : Bool) (run : List PlainNode) → k < length run → KnownRun rows p c run → parent_of rows (number_after p (suc k) run) ≡ Some (number_after p k run)
run_row rows p k c [] l h = absurd (omega arith)
run_row rows p zero c (e ∷ es) l h = ap (λ z. option_parent z) h.0
run_row rows p (suc k) c (e ∷ es) l h = run_row rows e.number k true es (omega arith) h.1

-- just below a position stands a node whose row names the position's node as its parent
pub parent_below : (rows : List (Option Row)) (root t : State) (b : PlainBranch) (v w : List Junction) (k j : ℕ) → Below v k w j → Stands root t b w j → Known rows 0 true b → parent_of rows (number_at b w j) ≡ Some (number_at b v k)
parent_below rows root t b v w k j (along {w = x} {k = i}) h n =
    run_row rows (start_at 0 b x) i _ (reach b x).run (let l = h.holds.ends.0 in omega (arith, l)) (Known-reach rows root 0 true b x h.holds.context n).0
parent_below rows root t b v w k j (fork_off {w = x} p) h n =
    let d = (Known-reach rows root 0 true b (x ++ p ∷ []) h.holds.context n).0 in
    let l = h.holds.ends.0 in
    run_row rows (start_at 0 b (x ++ p ∷ [])) 0 _ (reach b (x ++ p ∷ [])).run (omega (arith, l)) d ∙ ap Some (start_at-more 0 b x p)

-- numbers do not see records
number_after-wiped : (p k : ℕ) (run : List PlainNode) → number_after p k (map wiped run) ≡ number_after p k run
number_after-wiped p zero run = refl
number_after-wiped p (suc k) [] = refl
number_after-wiped p (suc k) (e ∷ es) = number_after-wiped e.number k es

pub fork_at-erased : (f : Forks) (i : ℕ) → fork_at (erased_forks f) i ≡ erased (fork_at f i)
fork_at-erased bare i = refl
fork_at-erased (fork f r j m) zero = refl
fork_at-erased (fork f r j m) (suc i) = fork_at-erased m i

pub reach-erased : (b : PlainBranch) (w : List Junction) → reach (erased b) w ≡ erased (reach b w)
reach-erased b [] = refl
reach-erased b (p ∷ ps) = ap (λ z. reach z ps) (fork_at-erased b.forks p.fork) ∙ reach-erased (fork_at b.forks p.fork) ps

start_at-erased : (n : ℕ) (b : PlainBranch) (w : List Junction) → start_at n (erased b) w ≡ start_at n b w
start_at-erased n b [] = refl
start_at-erased n b (p ∷ ps) =
    ap (λ z. start_at z (fork_at (erased_forks b.forks) p.fork) ps) (number_after-wiped n p.taken b.run)
    ∙ ap (λ z. start_at (number_after n p.taken b.run) z ps) (fork_at-erased b.forks p.fork)
    ∙ start_at-erased (number_after n p.taken b.run) (fork_at b.forks p.fork) ps

pub number_at-erased : (b : PlainBranch) (w : List Junction) (k : ℕ) → number_at (erased b) w k ≡ number_at b w k
number_at-erased b w k =
    ap (λ z. number_after z k (reach (erased b) w).run) (start_at-erased 0 b w)
    ∙ ap (λ z. number_after (start_at 0 b w) k z.run) (reach-erased b w)
    ∙ number_after-wiped (start_at 0 b w) k (reach b w).run

pub number_at-same : (b c : PlainBranch) (w : List Junction) (k : ℕ) → Same b c → number_at c w k ≡ number_at b w k
number_at-same b c w k h = sym (number_at-erased c w k) ∙ ap (λ z. number_at z w k) h.shape ∙ number_at-erased b w k

-- the code's step into a fork
pub enter_step : (root t : State) (b : PlainBranch) (w : List Junction) (p : Junction) (u : State) (c : PlainBranch) (x v : List Junction) → p.fork < count (reach b w).forks → (fork_at (reach b w).forks p.fork).from ≡ p.taken → 0 < length (fork_at (reach b w).forks p.fork).run →
    Stands root t b w p.taken → v ≡ w ++ p ∷ [] → x ≡ v →
    u ≡ (turned (undo_of (reach b x).run 0) t).0 → c ≡ at_end (with_undo 0 (turned (undo_of (reach b x).run 0) t).1) b x → Proper (w ++ p ∷ []) 1 → Moved root b u c v 1
enter_step root t b w p u c x v l e n h ev ex eu ec o =
    let k = stands_entered root t b w p l e h in
    let m : 0 < length (reach b (w ++ p ∷ [])).run = rw reach-more n in
    let r = forth_step root t b (w ++ p ∷ []) 0 1 u c x refl m k (ex ∙ ev) eu ec in
    record { stands = rw ev r.0; same = r.1; proper = rw ev o }

-- what the code needs before that step
pub enter_way : (root t : State) (b : PlainBranch) (w : List Junction) (p : Junction) (x v : List Junction) → p.fork < count (reach b w).forks → (fork_at (reach b w).forks p.fork).from ≡ p.taken → Stands root t b w p.taken → v ≡ w ++ p ∷ [] → x ≡ v → IsWay b x
enter_way root t b w p x v l e h ev ex = rw (ex, ev) (stands_way root t b (w ++ p ∷ []) 0 (stands_entered root t b w p l e h))

pub enter_within : (b : PlainBranch) (w : List Junction) (p : Junction) (x v : List Junction) → 0 < length (fork_at (reach b w).forks p.fork).run → v ≡ w ++ p ∷ [] → x ≡ v → 0 < length (reach b x).run
enter_within b w p x v n ev ex = rw (ex, ev, reach-more) n

pub enter_fits : (root t : State) (b : PlainBranch) (w : List Junction) (p : Junction) (x v : List Junction) → p.fork < count (reach b w).forks → (fork_at (reach b w).forks p.fork).from ≡ p.taken → 0 < length (fork_at (reach b w).forks p.fork).run → Stands root t b w p.taken → v ≡ w ++ p ∷ [] → x ≡ v → Fits (undo_of (reach b x).run 0) t
enter_fits root t b w p x v l e n h ev ex = rw (ex, ev) (forth_fits root t b (w ++ p ∷ []) 0 (rw reach-more n) (stands_entered root t b w p l e h))

number_after-get : (p k : ℕ) (run : List PlainNode) → k < length run → number_after p (suc k) run ≡ (get_or run k no_node).number
number_after-get p k [] l = absurd (omega arith)
number_after-get p zero (e ∷ es) l = refl
number_after-get p (suc k) (e ∷ es) l = number_after-get e.number k es (omega arith)

pub number_root : (b : PlainBranch) (w : List Junction) (k : ℕ) → Proper w k → k ≡ 0 → 0 ≡ number_at b w k
number_root b w k h e = rw (e, Proper-zero w (rw e at h)) refl

pub number_read : (b : PlainBranch) (w x : List Junction) (k j : ℕ) → k ≡ suc j → k ≤ length (reach b w).run → x ≡ w → (get_or (reach b x).run j no_node).number ≡ number_at b w k
number_read b w x k j e l ex = rw (ex, e) (sym (number_after-get (start_at 0 b w) j (reach b w).run (omega (arith, l, e))))

-- a session after a move
pub moved_kept : (root t u : State) (b c : PlainBranch) (w v : List Junction) (j k issued : ℕ) → Kept root t b w j issued → Moved root b u c v k → Kept (rewind c v k u) u c v k issued
moved_kept root t u b c w v j k issued h m = rw (stands_root root u c v k m.stands) (kept_moved root t u b c w v j k issued h m.same m.proper m.stands)

pub moved_state : (root t u : State) (b c : PlainBranch) (w v : List Junction) (j k issued n : ℕ) → Moved root b u c v k → n ≡ number_at c v k →
    ◌≡◌ {A = SessionState} (record { root = rewind c v k u; rows = rows_of issued c; current = number_at c v k }) (record { root = root; rows = rows_of issued b; current = n })
moved_state root t u b c w v j k issued n m e = rw (stands_root root u c v k m.stands, rows_of-same b c issued m.same, e) refl

pub moved_parent : (root t u : State) (b c : PlainBranch) (w v : List Junction) (j k issued n : ℕ) → Kept root t b w j issued → Moved root b u c v k → Below v k w j → n ≡ number_at c v k → parent_of (rows_of issued b) (number_at b w j) ≡ Some n
moved_parent root t u b c w v j k issued n h m l e =
    parent_below (rows_of issued b) root t b v w k j l h.stands h.known ∙ ap Some (sym (number_at-same b c v k m.same) ∙ sym e)

pub Proper-fork : (w : List Junction) (p : Junction) → Proper w p.taken → Proper (w ++ p ∷ []) 1
Proper-fork [] p h = omega arith
Proper-fork (q ∷ qs) p h = Inner-end qs p 1 (omega arith) h

pub stands_within : (root t : State) (b : PlainBranch) (w : List Junction) (k : ℕ) → Stands root t b w k → k ≤ length (reach b w).run
stands_within root t b w k h = h.holds.ends.0
