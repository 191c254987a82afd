-- Each node has the outcome of its step.
use Rattle.std.proofs.Common.{◌≡◌, ℕ, suc, zero, ◌<◌, Bool, true, false, List, [], ◌∷◌, length, get_or, ap, sym, ◌∙◌, subst, arith, Option, Some}
use Rattle.rev_tree.specs.Steps.{State, Step, Outcome, next, outcome_of}
use Rattle.rev_tree.specs.Tree.{PlainNode, PlainBranch, Forks, bare, fork, fork_at, count}
use Rattle.rev_tree.specs.Ways.{reach, no_node}
use Rattle.rev_tree.specs.States.{after, RunHolds, AllAhead, AllBut, base_at, Context, Ends, state_at}
use Rattle.rev_tree.specs.Rows.{Row, row_of, RowsFall, number_after, start_at, number_at, rows_of, Known, at}
use Rattle.rev_tree.specs.Positions.{Kept}
use Rattle.rev_tree.specs.Paths.{IsPath}
use Rattle.rev_tree.specs.Finds.{FoundAt}
use Rattle.rev_tree.proofs.Rows.{at-run, at-zero, Known-fork}
use Rattle.rev_tree.proofs.Spots.{path_less}
use Rattle.rev_tree.proofs.Held.{path_row}
use Rattle.rev_tree.specs.declared.junction.Junction.{Junction}

abbrev pub OutRun : State → List PlainNode → Type 0
OutRun s [] = Unit {0}
OutRun s (e ∷ es) = (e.outcome ≡ outcome_of s e.step) × OutRun (next s e.step) es

abbrev pub OutForks : State → List PlainNode → Forks → Type 0
OutForks s run bare = Unit {0}
OutForks s run (fork f r i m) = OutRun (after s f run) r × OutForks (after s f run) r i × OutForks s run m

out_run : (s : State) (run : List PlainNode) (k : ℕ) → RunHolds s run k → OutRun s run
out_run s [] k h = tt
out_run s (e ∷ es) zero h = (h.1, out_run (next s e.step) es zero h.2)
out_run s (e ∷ es) (suc k) h = (h.1, out_run (next s e.step) es k h.2)

out_ahead : (s : State) (run : List PlainNode) (f : Forks) → AllAhead s run f → OutForks s run f
out_ahead s run bare h = tt
out_ahead s run (fork f r i m) h = (out_run (after s f run) r 0 h.1, out_ahead (after s f run) r i h.2, out_ahead s run m h.3)

out_but : (k : ℕ) (s : State) (run : List PlainNode) (f : Forks) → k < count f → AllBut k s run f → OutRun (after s (fork_at f k).from run) (fork_at f k).run → OutForks (after s (fork_at f k).from run) (fork_at f k).run (fork_at f k).forks → OutForks s run f
out_but k s run bare l h o u = tt
out_but zero s run (fork f r i m) l h o u = (o, u, out_ahead s run m h)
out_but (suc k) s run (fork f r i m) l h o u = (out_run (after s f run) r 0 h.1, out_ahead (after s f run) r i h.2, out_but k s run m (omega (arith, l)) h.3 o u)

pub out_context : (s : State) (b : PlainBranch) (w : List Junction) (here : ℕ) → Context s b w → Ends (base_at s b w) (reach b w) here → OutRun s b.run × OutForks s b.run b.forks
out_context s b [] here h e = (out_run s b.run here e.1, out_ahead s b.run b.forks e.2)
out_context s b (p ∷ ps) here h e =
    let c = fork_at b.forks p.fork in
    let r = out_context (after s p.taken b.run) c ps here h.5 e in
    let t = sym h.4 in
    (out_run s b.run p.taken h.1, out_but p.fork s b.run b.forks h.3 h.2 (subst (λ z. OutRun (after s z b.run) c.run) t r.0) (subst (λ z. OutForks (after s z b.run) c.run c.forks) t r.1))

out_fork : (s : State) (run : List PlainNode) (f : Forks) (i : ℕ) → i < count f → OutForks s run f → OutRun (after s (fork_at f i).from run) (fork_at f i).run × OutForks (after s (fork_at f i).from run) (fork_at f i).run (fork_at f i).forks
out_fork s run bare i l h = absurd (omega (arith, l))
out_fork s run (fork f r j m) zero l h = (h.0, h.1)
out_fork s run (fork f r j m) (suc i) l h = out_fork s run m i (omega (arith, l)) h.2

out_get : (s : State) (run : List PlainNode) (k : ℕ) → k < length run → OutRun s run → (get_or run k no_node).outcome ≡ outcome_of (after s k run) (get_or run k no_node).step
out_get s [] k l h = absurd (omega (arith, l))
out_get s (e ∷ es) zero l h = h.0
out_get s (e ∷ es) (suc k) l h = out_get (next s e.step) es k (omega (arith, l)) h.1

pub out_path : (s : State) (b : PlainBranch) (w : List Junction) (k : ℕ) → OutRun s b.run → OutForks s b.run b.forks → IsPath b w (suc k) → (get_or (reach b w).run k no_node).outcome ≡ outcome_of (state_at s b w k) (get_or (reach b w).run k no_node).step
out_path s b [] k o u q = out_get s b.run k (omega (arith, q)) o
out_path s b (p ∷ ps) k o u q =
    let c = fork_at b.forks p.fork in
    let r = out_fork s b.run b.forks p.fork q.1 u in
    out_path (after s p.taken b.run) c ps k (subst (λ z. OutRun (after s z b.run) c.run) q.2 r.0) (subst (λ z. OutForks (after s z b.run) c.run c.forks) q.2 r.1) q.3

pub at_path : (root s : State) (rows : List (Option Row)) → RowsFall rows → (p : ℕ) (c : Bool) (b : PlainBranch) (w : List Junction) (k : ℕ) → IsPath b w k → at root rows p ≡ s → Known rows p c b → at root rows (number_after (start_at p b w) k (reach b w).run) ≡ state_at s b w k
at_path root s rows f p c b [] k q e n = at-run root s rows f k p c b.run e n.0
at_path root s rows f p c b (x ∷ xs) k q e n =
    at_path root (after s x.taken b.run) rows f (number_after p x.taken b.run) false (fork_at b.forks x.fork) xs k q.3 (at-run root s rows f x.taken p c b.run e n.0)
    (subst (λ z. Known rows (number_after p z b.run) false (fork_at b.forks x.fork)) q.2 (Known-fork rows p b.run b.forks x.fork q.1 n.1))

-- what row(n) shows
pub placed_row : (root t : State) (b : PlainBranch) (w v x : List Junction) (here j k issued n : ℕ) (d : Step) (o : Outcome) → Kept root t b w here issued → FoundAt n b v j → j ≡ suc k → x ≡ v → d ≡ (get_or (reach b x).run k no_node).step → o ≡ (get_or (reach b x).run k no_node).outcome →
    (r : Row) × (row_of (rows_of issued b) n ≡ Some r) × (d ≡ r.step) × (o ≡ outcome_of (at root (rows_of issued b) r.parent) r.step)
placed_row root t b w v x here j k issued n d o h p ej ex ed eo =
    let rows = rows_of issued b in
    let q : IsPath b v (suc k) = subst (λ z. IsPath b v z) ej p.path in
    let e = path_row rows b v k q h.known in
    let m : number_at b v (suc k) ≡ n = ap (λ z. number_at b v z) (sym ej) ∙ p.numbered in
    let u = out_context root b w here h.stands.holds.context h.stands.holds.ends in
    let s = at_path root root rows h.falls 0 true b v k (path_less b v (suc k) k (omega arith) q) (at-zero root rows) h.known in (
      _,
      ap (λ z. row_of rows z) (sym m) ∙ e,
      ed ∙ ap (λ z. (get_or (reach b z).run k no_node).step) ex,
      eo ∙ ap (λ z. (get_or (reach b z).run k no_node).outcome) ex ∙ out_path root b v k u.0 u.1 q ∙ ap (λ z. outcome_of z (get_or (reach b v).run k no_node).step) (sym s),
    )

pub step_read : (b c : PlainBranch) (k : ℕ) → b ≡ c → (get_or b.run k no_node).step ≡ (get_or c.run k no_node).step
step_read b c k e = ap (λ z. (get_or z.run k no_node).step) e

pub outcome_read : (b c : PlainBranch) (k : ℕ) → b ≡ c → (get_or b.run k no_node).outcome ≡ (get_or c.run k no_node).outcome
outcome_read b c k e = ap (λ z. (get_or z.run k no_node).outcome) e
