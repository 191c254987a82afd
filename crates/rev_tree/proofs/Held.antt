-- Which nodes are held: those that stand in the tree.
use Rattle.std.proofs.Common.{◌≡◌, ℕ, suc, zero, ◌<◌, ◌≤◌, Bool, true, false, cond, eqb, is_some, List, [], ◌∷◌, ◌++◌, length, get_or, refl, ap, sym, ◌∙◌, subst, arith, Option, Some, None, ◌⊎◌, inl, inr, ⊎_elim, IfSome}
use Rattle.rev_tree.specs.Steps.{State}
use Rattle.rev_tree.specs.Tree.{PlainNode, PlainBranch, Forks, bare, fork, fork_at}
use Rattle.rev_tree.specs.Ways.{reach, no_node}
use Rattle.rev_tree.specs.States.{rewind}
use Rattle.rev_tree.specs.Rows.{Row, row_of, row, number_after, start_at, number_at, find_in, find_run, find_forks, or_else, rows_of, Known, KnownRun}
use Rattle.rev_tree.proofs.Rows.{first_continues, Known-fork, or_else-none}
use Rattle.rev_tree.specs.Positions.{SessionState, Kept, Moved, Proper}
use Rattle.rev_tree.specs.Paths.{IsPath}
use Rattle.rev_tree.specs.Finds.{is_held, Rises, FoundAt, IsMissing}
use Rattle.rev_tree.proofs.Positions.{Proper-zero, moved_state, number_at-same}
use Rattle.rev_tree.proofs.Growth.{row_of-last, row_of-older, rows_of-suc, length_rows, none_above}
use Rattle.rev_tree.proofs.Finds.{less_or_same}
use Rattle.rev_tree.proofs.Fits.{row_of-within, rises_known}
use Rattle.rev_tree.specs.declared.junction.Junction.{Junction}

pub if_some_weaker : {T : Type 0} (o : Option T) (P Q : T → Type 0) → ((x : T) → P x → Q x) → IfSome o P → IfSome o Q
if_some_weaker None P Q f h = tt
if_some_weaker (Some x) P Q f h = f x h

-- the row of a number is what the tree has
pub row_find : (k : ℕ) (b : PlainBranch) (n : ℕ) → n < k → row_of (rows_of k b) (suc n) ≡ find_in (suc n) 0 true b
row_find zero b n h = absurd (omega arith)
row_find (suc k) b n h =
    let l = length_rows k b in
    let o = find_in (suc k) 0 true b in
    let e : row_of (rows_of (suc k) b) (suc n) ≡ row_of (rows_of k b ++ o ∷ []) (suc n) = ap (λ z. row_of z (suc n)) (rows_of-suc k b) in
    ⊎_elim (λ m. e ∙ row_of-older (rows_of k b) o (suc n) (omega (arith, l, m)) ∙ row_find k b n m)
    (λ m. e ∙ ap (λ z. row_of (rows_of k b ++ o ∷ []) (suc z)) (m ∙ sym l) ∙ row_of-last (rows_of k b) o ∙ ap (λ z. find_in (suc z) 0 true b) (sym m)) (less_or_same n k (omega arith))

pub row_found : (k : ℕ) (b : PlainBranch) (n : ℕ) (r : Row) → row_of (rows_of k b) n ≡ Some r → find_in n 0 true b ≡ Some r
row_found k b zero r h = cc
row_found k b (suc n) r h =
    let w = row_of-within (rows_of k b) (suc n) r h in
    let l = length_rows k b in
    sym (row_find k b n (omega (arith, w, l))) ∙ h

pub option_case : (o : Option Row) → (o ≡ None) ⊎ ((r : Row) × o ≡ Some r)
option_case None = inl refl
option_case (Some r) = inr (r, refl)

-- what is known at a position
pub known_path : (rows : List (Option Row)) (p : ℕ) (c : Bool) (b : PlainBranch) (w : List Junction) (h : ℕ) → IsPath b w h → Known rows p c b → Known rows (start_at p b w) (first_continues c w) (reach b w) × (h ≤ length (reach b w).run)
known_path rows p c b [] h q k = (k, q)
known_path rows p c b (x ∷ xs) h q k =
    known_path rows (number_after p x.taken b.run) false (fork_at b.forks x.fork) xs h q.3 (subst (λ z. Known rows (number_after p z b.run) false (fork_at b.forks x.fork)) q.2 (Known-fork rows p b.run b.forks x.fork q.1 k.1))

-- whether the node behind the first k of a run continues
abbrev pub goes : ℕ → Bool → Bool
goes zero c = c
goes (suc k) c = true

pub run_known : (rows : List (Option Row)) (p k : ℕ) (c : Bool) (run : List PlainNode) → k < length run → KnownRun rows p c run → row_of rows (number_after p (suc k) run) ≡ Some (row (number_after p k run) (get_or run k no_node).step (goes k c))
run_known rows p k c [] l h = absurd (omega arith)
run_known rows p zero c (e ∷ es) l h = h.0
run_known rows p (suc zero) c (e ∷ []) l h = absurd (omega arith)
run_known rows p (suc zero) c (e ∷ (d ∷ ds)) l h = h.1.0
run_known rows p (suc (suc k)) c (e ∷ es) l h = run_known rows e.number (suc k) true es (omega arith) h.1

pub path_row : (rows : List (Option Row)) (b : PlainBranch) (w : List Junction) (h : ℕ) → IsPath b w (suc h) → Known rows 0 true b →
    row_of rows (number_at b w (suc h)) ≡ Some (row (number_at b w h) (get_or (reach b w).run h no_node).step (goes h (first_continues true w)))
path_row rows b w h q k =
    let m = known_path rows 0 true b w (suc h) q k in
    let l = m.1 in
    run_known rows (start_at 0 b w) h (first_continues true w) (reach b w).run (omega (arith, l)) m.0.0

pub held_row : (rows : List (Option Row)) (n : ℕ) (r : Row) → row_of rows n ≡ Some r → is_held rows n ≡ true
held_row rows zero r h = refl
held_row rows (suc n) r h = ap (λ z. is_some z) h

pub path_held : (rows : List (Option Row)) (b : PlainBranch) (w : List Junction) (h n : ℕ) → IsPath b w h → Proper w h → Known rows 0 true b → number_at b w h ≡ n → is_held rows n ≡ true
path_held rows b w zero n q o k e = ap (λ z. is_held rows z) (sym e ∙ ap (λ z. number_at b z 0) (Proper-zero w o))
path_held rows b w (suc h) n q o k e = ap (λ z. is_held rows z) (sym e) ∙ held_row rows (number_at b w (suc h)) _ (path_row rows b w h q k)

pub placed_held : (root t : State) (b : PlainBranch) (w v : List Junction) (k at issued n : ℕ) → Kept root t b w k issued → FoundAt n b v at → is_held (rows_of issued b) n ≡ true
placed_held root t b w v k at issued n h q = path_held (rows_of issued b) b v at n q.path q.proper h.known q.numbered

pub missing_held : (b : PlainBranch) (issued n : ℕ) → 0 < n → IsMissing n b → is_held (rows_of issued b) n ≡ true → ⊥
missing_held b issued zero l h e = omega (arith, l)
missing_held b issued (suc n) l h e =
    ⊎_elim (λ (z : row_of (rows_of issued b) (suc n) ≡ None). let f = ap (λ o. is_some o) z in cc)
    (λ (z : (r : Row) × row_of (rows_of issued b) (suc n) ≡ Some r). let f = row_found issued b (suc n) z.0 z.1 in let m = h 0 true in cc) (option_case (row_of (rows_of issued b) (suc n)))

-- what a search needs
pub kept_rises : (root t : State) (b : PlainBranch) (w : List Junction) (k issued : ℕ) → Kept root t b w k issued → Rises b
kept_rises root t b w k issued h = rises_known (rows_of issued b) 0 true b h.falls h.known

-- a session that went to a node
pub went_state : (root t u : State) (b c : PlainBranch) (w v x y : List Junction) (j k at issued n : ℕ) → Moved root b u c v k → FoundAt n b y at → x ≡ y → v ≡ x → k ≡ at →
    ◌≡◌ {A = SessionState} (record { root = rewind c v k u; rows = rows_of issued c; current = number_at c v k }) (record { root = root; rows = rows_of issued b; current = n })
went_state root t u b c w v x y j k at issued n m q ex ev ek =
    moved_state root t u b c w v j k issued n m (sym (number_at-same b c v k m.same ∙ ap (λ z. number_at b z k) (ev ∙ ex) ∙ ap (λ z. number_at b y z) ek ∙ q.numbered))

-- a number that was not given out is missing, wherever the search for it began
none_either : (b : Bool) (x y : Row) (o : Option Row) → cond b (Some x) o ≡ None → cond b (Some y) o ≡ None
none_either true x y o h = cc
none_either false x y o h = h

none_run_behind : (n p q : ℕ) (c d : Bool) (run : List PlainNode) → find_run n p c run ≡ None → find_run n q d run ≡ None
none_run_behind n p q c d [] h = refl
none_run_behind n p q c d (e ∷ es) h = none_either (eqb n e.number) (row p e.step c) (row q e.step d) (find_run n e.number true es) h

or_else_both : (o r : Option Row) → o ≡ None → r ≡ None → or_else o r ≡ None
or_else_both o r h k = ap (λ z. or_else z r) h ∙ k

none_forks_behind : (n p q : ℕ) (run : List PlainNode) (f : Forks) → find_forks n p run f ≡ None → find_forks n q run f ≡ None
none_forks_behind n p q run bare h = refl
none_forks_behind n p q run (fork f r i m) h =
    let a = or_else-none (or_else (find_run n (number_after p f run) false r) (find_forks n (number_after p f run) r i)) (find_forks n p run m) h in
    let b = or_else-none (find_run n (number_after p f run) false r) (find_forks n (number_after p f run) r i) a.0 in
    or_else_both (or_else (find_run n (number_after q f run) false r) (find_forks n (number_after q f run) r i)) (find_forks n q run m)
    (or_else_both (find_run n (number_after q f run) false r) (find_forks n (number_after q f run) r i)
    (none_run_behind n (number_after p f run) (number_after q f run) false false r b.0) (none_forks_behind n (number_after p f run) (number_after q f run) r i b.1))
    (none_forks_behind n p q run m a.1)

pub missing_anywhere : (b : PlainBranch) (n : ℕ) → find_in n 0 true b ≡ None → IsMissing n b
missing_anywhere b n h = λ p c.
    let a = or_else-none (find_run n 0 true b.run) (find_forks n 0 b.run b.forks) h in
    or_else_both (find_run n p c b.run) (find_forks n p b.run b.forks) (none_run_behind n 0 p true c b.run a.0) (none_forks_behind n 0 p b.run b.forks a.1)

pub kept_fewer : (root t : State) (b : PlainBranch) (w : List Junction) (k issued n : ℕ) → Kept root t b w k issued → issued < n → IsMissing n b
kept_fewer root t b w k issued n h l = let e = length_rows issued b in missing_anywhere b n (none_above (rows_of issued b) n 0 true b (omega (arith, e, l)) h.known)
