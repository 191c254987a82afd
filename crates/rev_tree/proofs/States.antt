-- How the states and records of a tree change.
use Rattle.std.proofs.Common.{◌≡◌, ℕ, suc, zero, ◌<◌, ◌≤◌, List, [], ◌∷◌, ◌++◌, length, get_or, set, refl, ap, sym, ◌∙◌, subst, arith}
use Rattle.std.proofs.lemmas.List.{length-set, length-append}
use Rattle.rev_tree.specs.Steps.{State, Step, PlainRecord, next, outcome_of, Fits, turned, Leads, Recalls, Undoes, Redoes}
use Rattle.rev_tree.specs.Tree.{PlainNode, PlainBranch, Forks, bare, fork, fork_at, put_fork, add_fork, count}
use Rattle.rev_tree.specs.Ways.{reach, IsWay, at_end, undo_of, with_undo, with_node, no_node}
use Rattle.rev_tree.specs.States.{after, RunHolds, AllAhead, AllBut, base_at, Context, Ends, state_at, Holds, rewind_run, rewind}
use Rattle.rev_tree.specs.declared.junction.Junction.{Junction}

-- what a record becomes leads the other way
pub leads-back : (r : PlainRecord) (t s : State) → Leads r t s → Leads (turned r t).1 s t
leads-back r t s h = record {
  fits = h.fits_back;
  there = ap (λ p. p.0) h.back;
  fits_back = subst (λ z. Fits z.1 t) (sym h.back) h.fits;
  back = ap (λ z. turned z.1 t) h.back ∙ ap (λ z. let p : State × PlainRecord = (z, (turned r t).1) in p) h.there;
}

-- a record that is turned over keeps what it tells
pub undoes-turned : (r : PlainRecord) (s : State) (e : Step) → Undoes r s e → Redoes (turned r (next s e)).1 s e
undoes-turned r s e h = record {
  leads = leads-back r (next s e) s h.leads;
  recalls = subst (λ (z : State × PlainRecord). Recalls z.1 s e) (sym h.leads.back) h.recalls;
}

pub redoes-turned : (r : PlainRecord) (s : State) (e : Step) → Redoes r s e → Undoes (turned r s).1 s e
redoes-turned r s e h = record { leads = leads-back r s (next s e) h.leads; recalls = h.recalls }

abbrev pub node_with : PlainNode → PlainRecord → PlainNode
node_with e r = record e { undo = r }

pub after-set : (s : State) (run : List PlainNode) (k j : ℕ) (r : PlainRecord) → after s j (set run k (node_with (get_or run k no_node) r)) ≡ after s j run
after-set s run k zero r = refl
after-set s [] k (suc j) r = refl
after-set s (e ∷ es) zero (suc j) r = refl
after-set s (e ∷ es) (suc k) (suc j) r = after-set (next s e.step) es k j r

pub after-append : (s : State) (run more : List PlainNode) (j : ℕ) → j ≤ length run → after s j (run ++ more) ≡ after s j run
after-append s run more zero h = refl
after-append s [] more (suc j) h = absurd (omega arith)
after-append s (e ∷ es) more (suc j) h = after-append (next s e.step) es more j (omega arith)

-- forks hold over any run with the same states
pub AllAhead-over : (s t : State) (run more : List PlainNode) (f : Forks) → ((j : ℕ) → j ≤ length run → after s j run ≡ after t j more) → length run ≤ length more → AllAhead s run f → AllAhead t more f
AllAhead-over s t run more bare e l h = tt
AllAhead-over s t run more (fork f r i m) e l h =
    (omega (arith, h.0), subst (λ z. RunHolds z r 0) (e f h.0) h.1, subst (λ z. AllAhead z r i) (e f h.0) h.2, AllAhead-over s t run more m e l h.3)

pub run_back : (s : State) (run : List PlainNode) (k : ℕ) → k < length run → RunHolds s run (suc k) →
    Leads (undo_of run k) (after s (suc k) run) (after s k run) × RunHolds s (set run k (node_with (get_or run k no_node) (turned (undo_of run k) (after s (suc k) run)).1)) k
run_back s [] k l h = absurd (omega arith)
run_back s (e ∷ es) zero l h = (h.0.leads, (undoes-turned e.undo s e.step h.0, h.1, h.2))
run_back s (e ∷ es) (suc k) l h =
    let p = run_back (next s e.step) es k (omega arith) h.2 in (p.0, (h.0, h.1, p.1))

pub run_forth : (s : State) (run : List PlainNode) (k : ℕ) → k < length run → RunHolds s run k →
    Leads (undo_of run k) (after s k run) (after s (suc k) run) × RunHolds s (set run k (node_with (get_or run k no_node) (turned (undo_of run k) (after s k run)).1)) (suc k)
run_forth s [] k l h = absurd (omega arith)
run_forth s (e ∷ es) zero l h = (h.0.leads, (redoes-turned e.undo s e.step h.0, h.1, h.2))
run_forth s (e ∷ es) (suc k) l h =
    let p = run_forth (next s e.step) es k (omega arith) h.2 in (p.0, (h.0, h.1, p.1))

pub run_push : (s : State) (run : List PlainNode) (e : PlainNode) → RunHolds s run (length run) → Undoes e.undo (after s (length run) run) e.step → e.outcome ≡ outcome_of (after s (length run) run) e.step → RunHolds s (run ++ e ∷ []) (suc (length run))
run_push s [] e h l o = (l, o, tt)
run_push s (d ∷ ds) e h l o = (h.0, h.1, run_push (next s d.step) ds e h.2 l o)

pub after-push : (s : State) (run : List PlainNode) (e : PlainNode) → after s (suc (length run)) (run ++ e ∷ []) ≡ next (after s (length run) run) e.step
after-push s [] e = refl
after-push s (d ∷ ds) e = after-push (next s d.step) ds e

-- one step back, and one forth, in the branch at the end
pub ends_back : (s : State) (b : PlainBranch) (k : ℕ) → Ends s b (suc k) → Leads (undo_of b.run k) (after s (suc k) b.run) (after s k b.run) × Ends s (with_undo k (turned (undo_of b.run k) (after s (suc k) b.run)).1 b) k
ends_back s b k h =
    let p = run_back s b.run k (omega (arith, h.0)) h.1 in
    let l = length-set b.run k (node_with (get_or b.run k no_node) (turned (undo_of b.run k) (after s (suc k) b.run)).1) in
    (p.0, (omega (arith, h.0, l), p.1, AllAhead-over s s b.run _ b.forks (λ j g. sym (after-set s b.run k j _)) (omega (arith, l)) h.2))

pub ends_forth : (s : State) (b : PlainBranch) (k : ℕ) → k < length b.run → Ends s b k → Leads (undo_of b.run k) (after s k b.run) (after s (suc k) b.run) × Ends s (with_undo k (turned (undo_of b.run k) (after s k b.run)).1 b) (suc k)
ends_forth s b k g h =
    let p = run_forth s b.run k g h.1 in
    let l = length-set b.run k (node_with (get_or b.run k no_node) (turned (undo_of b.run k) (after s k b.run)).1) in
    (p.0, (omega (arith, g, l), p.1, AllAhead-over s s b.run _ b.forks (λ j g. sym (after-set s b.run k j _)) (omega (arith, l)) h.2))

pub ends_push : (s : State) (b : PlainBranch) (e : PlainNode) → Ends s b (length b.run) → Undoes e.undo (after s (length b.run) b.run) e.step → e.outcome ≡ outcome_of (after s (length b.run) b.run) e.step → Ends s (with_node e b) (suc (length b.run))
ends_push s b e h l o =
    let n = length-append b.run (e ∷ []) in
    (omega (arith, n), run_push s b.run e h.1 l o, AllAhead-over s s b.run _ b.forks (λ j g. sym (after-append s b.run (e ∷ []) j g)) (omega (arith, n)) h.2)

-- forks by their number
pub fork_at-put : (f : Forks) (i : ℕ) (x : PlainBranch) → i < count f → fork_at (put_fork f i x) i ≡ x
fork_at-put bare i x h = absurd (omega arith)
fork_at-put (fork f r j m) zero x h = refl
fork_at-put (fork f r j m) (suc i) x h = fork_at-put m i x (omega arith)

pub count-put : (f : Forks) (i : ℕ) (x : PlainBranch) → count (put_fork f i x) ≡ count f
count-put bare i x = refl
count-put (fork f r j m) zero x = refl
count-put (fork f r j m) (suc i) x = ap suc (count-put m i x)

pub AllBut-put : (k : ℕ) (s : State) (run : List PlainNode) (f : Forks) (x : PlainBranch) → AllBut k s run f → AllBut k s run (put_fork f k x)
AllBut-put k s run bare x h = h
AllBut-put zero s run (fork f r i m) x h = h
AllBut-put (suc k) s run (fork f r i m) x h = (h.0, h.1, h.2, AllBut-put k s run m x h.3)

-- the fork k taken out of those that point forward, and put back
pub picked : (k : ℕ) (s : State) (run : List PlainNode) (f : Forks) → k < count f → AllAhead s run f →
    AllBut k s run f × ((fork_at f k).from ≤ length run) × Ends (after s (fork_at f k).from run) (fork_at f k) 0
picked k s run bare l h = absurd (omega arith)
picked zero s run (fork f r i m) l h = (h.3, h.0, (omega arith, h.1, h.2))
picked (suc k) s run (fork f r i m) l h = let p = picked k s run m (omega arith) h.3 in ((h.0, h.1, h.2, p.0), p.1, p.2)

pub unpicked : (k : ℕ) (s : State) (run : List PlainNode) (f : Forks) → k < count f → AllBut k s run f → (fork_at f k).from ≤ length run → Ends (after s (fork_at f k).from run) (fork_at f k) 0 → AllAhead s run f
unpicked k s run bare l h g e = tt
unpicked zero s run (fork f r i m) l h g e = (g, e.1, e.2, h)
unpicked (suc k) s run (fork f r i m) l h g e = (h.0, h.1, h.2, unpicked k s run m (omega arith) h.3 g e)

pub AllAhead-add : (s : State) (run : List PlainNode) (f : Forks) (x : PlainBranch) → AllAhead s run f → x.from ≤ length run → Ends (after s x.from run) x 0 → AllAhead s run (add_fork f x)
AllAhead-add s run bare x h l e = (l, e.1, e.2, tt)
AllAhead-add s run (fork f r i m) x h l e = (h.0, h.1, h.2, AllAhead-add s run m x h.3 l e)

-- a way is one of the tree
pub IsWay-context : (s : State) (b : PlainBranch) (w : List Junction) → Context s b w → IsWay b w
IsWay-context s b [] h = tt
IsWay-context s b (p ∷ ps) h = (h.3, IsWay-context (after s p.taken b.run) (fork_at b.forks p.fork) ps h.5)

-- a change at the end of a way
pub reach-at_end : (f : PlainBranch → PlainBranch) (b : PlainBranch) (w : List Junction) → IsWay b w → reach (at_end f b w) w ≡ f (reach b w)
reach-at_end f b [] h = refl
reach-at_end f b (p ∷ ps) h = ap (λ z. reach z ps) (fork_at-put b.forks p.fork _ h.0) ∙ reach-at_end f _ ps h.1

pub IsWay-at_end : (f : PlainBranch → PlainBranch) (b : PlainBranch) (w : List Junction) → IsWay b w → IsWay (at_end f b w) w
IsWay-at_end f b [] h = tt
IsWay-at_end f b (p ∷ ps) h =
    (rw count-put h.0, subst (λ z. IsWay z ps) (sym (fork_at-put b.forks p.fork _ h.0)) (IsWay-at_end f _ ps h.1))

pub base_at-at_end : (f : PlainBranch → PlainBranch) (s : State) (b : PlainBranch) (w : List Junction) → IsWay b w → base_at s (at_end f b w) w ≡ base_at s b w
base_at-at_end f s b [] h = refl
base_at-at_end f s b (p ∷ ps) h = ap (λ z. base_at (after s p.taken b.run) z ps) (fork_at-put b.forks p.fork _ h.0) ∙ base_at-at_end f (after s p.taken b.run) (fork_at b.forks p.fork) ps h.1

pub from-at_end : (f : PlainBranch → PlainBranch) (b : PlainBranch) (w : List Junction) → ((c : PlainBranch) → (f c).from ≡ c.from) → (at_end f b w).from ≡ b.from
from-at_end f b [] h = h b
from-at_end f b (p ∷ ps) h = refl

pub Context-at_end : (f : PlainBranch → PlainBranch) (s : State) (b : PlainBranch) (w : List Junction) → ((c : PlainBranch) → (f c).from ≡ c.from) → Context s b w → Context s (at_end f b w) w
Context-at_end f s b [] k h = tt
Context-at_end f s b (p ∷ ps) k h =
    let e = sym (fork_at-put b.forks p.fork (at_end f (fork_at b.forks p.fork) ps) h.3) in (
      h.0,
      h.1,
      AllBut-put p.fork s b.run b.forks _ h.2,
      rw count-put h.3,
      subst (λ z. z.from ≡ p.taken) e (from-at_end f _ ps k ∙ h.4),
      subst (λ z. Context (after s p.taken b.run) z ps) e (Context-at_end f (after s p.taken b.run) (fork_at b.forks p.fork) ps k h.5),
    )

pub Holds-at_end : (f : PlainBranch → PlainBranch) (s : State) (b : PlainBranch) (w : List Junction) (here now : ℕ) → ((c : PlainBranch) → (f c).from ≡ c.from) → Holds s b w here → Ends (base_at s b w) (f (reach b w)) now → Holds s (at_end f b w) w now
Holds-at_end f s b w here now k h e =
    let q = IsWay-context s b w h.context in
    record {
      context = Context-at_end f s b w k h.context;
      ends = subst (λ z. Ends z (reach (at_end f b w) w) now) (sym (base_at-at_end f s b w q)) (subst (λ z. Ends (base_at s b w) z now) (sym (reach-at_end f b w q)) e);
    }

pub state_at-at_end : (f : PlainBranch → PlainBranch) (s : State) (b : PlainBranch) (w : List Junction) (j : ℕ) → IsWay b w → state_at s (at_end f b w) w j ≡ after (base_at s b w) j (f (reach b w)).run
state_at-at_end f s b w j q = ap (λ z. after z j (reach (at_end f b w) w).run) (base_at-at_end f s b w q) ∙ ap (λ z. after (base_at s b w) j z.run) (reach-at_end f b w q)

-- a longer way
pub reach-more : (b : PlainBranch) (w : List Junction) (p : Junction) → reach b (w ++ p ∷ []) ≡ fork_at (reach b w).forks p.fork
reach-more b [] p = refl
reach-more b (q ∷ qs) p = reach-more _ qs p

pub base_at-more : (s : State) (b : PlainBranch) (w : List Junction) (p : Junction) → base_at s b (w ++ p ∷ []) ≡ state_at s b w p.taken
base_at-more s b [] p = refl
base_at-more s b (q ∷ qs) p = base_at-more (after s q.taken b.run) (fork_at b.forks q.fork) qs p

pub Context-more : (s : State) (b : PlainBranch) (w : List Junction) (p : Junction) → Context s b w → Context (base_at s b w) (reach b w) (p ∷ []) → Context s b (w ++ p ∷ [])
Context-more s b [] p h k = k
Context-more s b (q ∷ qs) p h k = (h.0, h.1, h.2, h.3, h.4, Context-more (after s q.taken b.run) (fork_at b.forks q.fork) qs p h.5 k)

pub Context-less : (s : State) (b : PlainBranch) (w : List Junction) (p : Junction) → Context s b (w ++ p ∷ []) → Context s b w × Context (base_at s b w) (reach b w) (p ∷ [])
Context-less s b [] p h = (tt, h)
Context-less s b (q ∷ qs) p h = let k = Context-less (after s q.taken b.run) (fork_at b.forks q.fork) qs p h.5 in ((h.0, h.1, h.2, h.3, h.4, k.0), k.1)

-- into a fork, and out of it
pub entered : (s : State) (b : PlainBranch) (w : List Junction) (p : Junction) → Holds s b w p.taken → p.fork < count (reach b w).forks → (fork_at (reach b w).forks p.fork).from ≡ p.taken → Holds s b (w ++ p ∷ []) 0
entered s b w p h l e =
    let k = picked p.fork (base_at s b w) (reach b w).run (reach b w).forks l h.ends.2 in
    record {
      context = Context-more s b w p h.context (h.ends.0, h.ends.1, k.0, l, e, tt);
      ends = rw (base_at-more, reach-more) (subst (λ z. Ends (after (base_at s b w) z (reach b w).run) (fork_at (reach b w).forks p.fork) 0) e k.2);
    }

pub left : (s : State) (b : PlainBranch) (w : List Junction) (p : Junction) → Holds s b (w ++ p ∷ []) 0 → Holds s b w p.taken
left s b w p h =
    let k = Context-less s b w p h.context in
    let e = rw (base_at-more, reach-more) at h.ends in
    record {
      context = k.0;
      ends = (k.1.0, k.1.1, unpicked p.fork _ _ _ k.1.3 k.1.2 (rw k.1.4 k.1.0) (rw k.1.4 e));
    }

-- the root, by turning back
pub rewind_run-after : (s : State) (run : List PlainNode) (k : ℕ) → k ≤ length run → RunHolds s run k → rewind_run run k (after s k run) ≡ s
rewind_run-after s [] zero l h = refl
rewind_run-after s [] (suc k) l h = refl
rewind_run-after s (e ∷ es) zero l h = refl
rewind_run-after s (e ∷ es) (suc k) l h =
    ap (λ z. (turned e.undo z).0) (rewind_run-after (next s e.step) es k (omega arith) h.2) ∙ h.0.leads.there

pub rewind-state_at : (s : State) (b : PlainBranch) (w : List Junction) (here : ℕ) → Context s b w → Ends (base_at s b w) (reach b w) here → rewind b w here (state_at s b w here) ≡ s
rewind-state_at s b [] here h e = rewind_run-after s b.run here e.0 e.1
rewind-state_at s b (p ∷ ps) here h e =
    ap (λ z. rewind_run b.run p.taken z) (rewind-state_at (after s p.taken b.run) (fork_at b.forks p.fork) ps here h.5 e) ∙ rewind_run-after s b.run p.taken h.0 h.1
