-- A node played in a tree.
use Rattle.std.proofs.Common.{◌≡◌, ℕ, suc, zero, ◌<◌, ◌≤◌, Bool, true, false, cond, eqb, List, [], ◌∷◌, ◌++◌, length, refl, ap, sym, ◌∙◌, subst, arith, Option, Some, None, ◌⊎◌, inl, inr, ⊎_elim}
use Rattle.std.proofs.lemmas.List.{length_push}
use Rattle.std.proofs.lemmas.Bool.Decides.{nat_tests}
use Rattle.rev_tree.specs.Steps.{State, Step, next, outcome_of, Undoes, Sound}
use Rattle.rev_tree.specs.Tree.{PlainNode, PlainBranch, Forks, bare, fork, fork_at, add_fork, count}
use Rattle.rev_tree.specs.Ways.{reach, IsWay, at_end, with_node, with_fork}
use Rattle.rev_tree.specs.States.{after, RunHolds, AllAhead, AllBut, base_at, Context, Ends, rewind}
use Rattle.rev_tree.specs.Rows.{Row, row_of, RowsFall, row, number_after, start_at, number_at, find_in, find_run, find_forks, or_else, rows_of, Known, KnownRun, KnownForks}
use Rattle.rev_tree.proofs.Rows.{first_continues, find-at_end, find-new, find_run-other, find_run-new, find_forks-over, number_after-append, Known-at_end, Known-reach, Known-down, KnownRun-push, KnownForks-over, KnownForks-add, find_forks-add_other, find_forks-add_new, KnownRun-more, KnownForks-more, goes_on, goes_on-true, or_else-none}
use Rattle.rev_tree.specs.Positions.{SessionState, Stands, Grown, Kept, Proper, Inner, Below, along, fork_off}
use Rattle.rev_tree.proofs.States.{ends_push, Holds-at_end, state_at-at_end, after-push, reach-at_end, base_at-at_end, Context-at_end, Context-more, base_at-more, reach-more, fork_at-put}
use Rattle.rev_tree.proofs.Turns.{leads_sound}
use Rattle.rev_tree.proofs.Positions.{Proper-at, Proper-fork, stands_way, stands_root}
use Rattle.rev_tree.proofs.Stays.{stays, covers_node, covers_fork}
use Rattle.rev_tree.proofs.Fits.{fitted_push, fitted_split, row_of-within}
use Rattle.rev_tree.specs.declared.junction.Junction.{Junction}

-- the fork that was added last
pub fork_at-add : (f : Forks) (x : PlainBranch) → fork_at (add_fork f x) (count f) ≡ x
fork_at-add bare x = refl
fork_at-add (fork f r i m) x = fork_at-add m x

pub count-add : (f : Forks) (x : PlainBranch) → count (add_fork f x) ≡ suc (count f)
count-add bare x = refl
count-add (fork f r i m) x = ap suc (count-add m x)

start_at-at_end : (f : PlainBranch → PlainBranch) (p : ℕ) (b : PlainBranch) (w : List Junction) → IsWay b w → start_at p (at_end f b w) w ≡ start_at p b w
start_at-at_end f p b [] h = refl
start_at-at_end f p b (q ∷ qs) h =
    ap (λ z. start_at (number_after p q.taken b.run) z qs) (fork_at-put b.forks q.fork _ h.0) ∙ start_at-at_end f (number_after p q.taken b.run) (fork_at b.forks q.fork) qs h.1

eqb-same : (n : ℕ) → eqb n n ≡ true
eqb-same n = grind (arith, nat_tests)

number_after-push : (p : ℕ) (run : List PlainNode) (e : PlainNode) → number_after p (suc (length run)) (run ++ e ∷ []) ≡ e.number
number_after-push p [] e = refl
number_after-push p (d ∷ ds) e = number_after-push d.number ds e

-- in the branch at the end of a proper way the last node of the run continues
Inner-length : (w : List Junction) (k : ℕ) → Inner w k → 0 < k
Inner-length [] k h = h
Inner-length (p ∷ ps) k h = Inner-length ps k h.1

goes_on-some : (c : Bool) (run : List PlainNode) → 0 < length run → goes_on c run ≡ true
goes_on-some c [] h = absurd (omega arith)
goes_on-some c (d ∷ ds) h = refl

goes_on-proper : (w : List Junction) (run : List PlainNode) → Proper w (length run) → goes_on (first_continues true w) run ≡ true
goes_on-proper [] run h = goes_on-true run
goes_on-proper (p ∷ ps) run h = goes_on-some _ run (Inner-length ps (length run) h)

first_false : (w : List Junction) → first_continues false w ≡ false
first_false [] = refl
first_false (p ∷ ps) = first_false ps

-- a node at the end of the run
pub grown_push : (root t : State) (b : PlainBranch) (w : List Junction) (k : ℕ) (e : PlainNode) → Stands root t b w k → Proper w k → k ≡ length (reach b w).run → Undoes e.undo t e.step → e.outcome ≡ outcome_of t e.step →
    Grown root b w k (next t e.step) (at_end (with_node e) b w) w (suc k) e.number e.step true
grown_push root t b w k e h q l r o =
    let c = reach b w in
    let s = base_at root b w in
    let y = stands_way root t b w k h in
    let a = h.holds.ends.2 in
    let here : Stands root t b w (length c.run) = subst (λ z. Stands root t b w z) l h in
    let u : t ≡ after s (length c.run) c.run = here.now_at in
    let g : goes_on (first_continues true w) c.run ≡ true = goes_on-proper w c.run (subst (λ z. Proper w z) l q) in
    let n : number_after (start_at 0 b w) k c.run ≡ number_after (start_at 0 b w) (length c.run) c.run = ap (λ z. number_after (start_at 0 b w) z c.run) l in
    record {
      stands = rw l (record {
        holds = Holds-at_end (with_node e) root b w (length c.run) (suc (length c.run)) (λ d. refl) here.holds (ends_push s c e here.holds.ends (subst (λ z. Undoes e.undo z e.step) u r) (subst (λ z. e.outcome ≡ outcome_of z e.step) u o));
        now_at = ap (λ z. next z e.step) u ∙ sym (state_at-at_end (with_node e) root b w (suc (length c.run)) y ∙ after-push s c.run e);
      });
      proper = Proper-at w k (suc k) (omega arith) q;
      below = along;
      stays = λ x i v. stays (with_node e) (covers_node e) b w x i 0 y v;
      fitted = λ rows x m g. fitted_push b w k e y q l g;
      numbered = ap (λ z. number_after z (suc k) (reach (at_end (with_node e) b w) w).run) (start_at-at_end (with_node e) 0 b w y)
          ∙ ap (λ z. number_after (start_at 0 b w) (suc k) z.run) (reach-at_end (with_node e) b w y)
          ∙ ap (λ z. number_after (start_at 0 b w) (suc z) (c.run ++ e ∷ [])) l ∙ number_after-push (start_at 0 b w) c.run e;
      others = λ m x. find-at_end (with_node e) m 0 true b w (λ d. refl) (λ p d.
          ap (λ z. or_else z (find_forks m p (c.run ++ e ∷ []) c.forks)) (find_run-other m p d c.run e x)
          ∙ ap (λ z. or_else (find_run m p d c.run) z) (find_forks-over s m p c.run (c.run ++ e ∷ []) c.forks (λ j v. number_after-append p c.run (e ∷ []) j v) a));
      fresh = λ x. find-new (with_node e) root e.number 0 true b w _ (λ d. refl) h.holds.context x (λ z.
          ap (λ v. or_else v (find_forks e.number (start_at 0 b w) (c.run ++ e ∷ []) c.forks))
          (find_run-new e.number (start_at 0 b w) (first_continues true w) c.run e (eqb-same e.number) (or_else-none _ _ z).0)
          ∙ ap (λ v. Some (row v e.step (goes_on (first_continues true w) c.run))) (sym n) ∙ ap (λ v. Some (row (number_after (start_at 0 b w) k c.run) e.step v)) g);
      known = λ rows x v.
          let f = Known-reach rows root 0 true b w h.holds.context x in
          Known-at_end (with_node e) rows root 0 true b w (λ d. refl) h.holds.context x (
            KnownRun-push rows _ _ c.run e f.0 (v ∙ ap (λ z. Some (row z e.step true)) n ∙ ap (λ z. Some (row (number_after (start_at 0 b w) (length c.run) c.run) e.step z)) (sym g)),
            KnownForks-over rows s _ c.run (c.run ++ e ∷ []) c.forks (λ j v. number_after-append (start_at 0 b w) c.run (e ∷ []) j v) a f.1,
          );
    }

-- a fork with one node
abbrev pub sprout : ℕ → PlainNode → PlainBranch
sprout k e = record { from = k; run = e ∷ []; forks = bare }

AllBut-add : (s : State) (run : List PlainNode) (f : Forks) (x : PlainBranch) → AllAhead s run f → AllBut (count f) s run (add_fork f x)
AllBut-add s run bare x h = tt
AllBut-add s run (fork f r i m) x h = (h.0, h.1, h.2, AllBut-add s run m x h.3)

find-sprout_other : (n k p : ℕ) (e : PlainNode) → eqb n e.number ≡ false → find_in n p false (sprout k e) ≡ None
find-sprout_other n k p e h = rw h refl

find-sprout_same : (k p : ℕ) (e : PlainNode) → find_in e.number p false (sprout k e) ≡ Some (row p e.step false)
find-sprout_same k p e = rw (eqb-same e.number) refl

pub grown_split : (root t : State) (b : PlainBranch) (w : List Junction) (k : ℕ) (e : PlainNode) (p : Junction) → length w < 64 → Proper w k → p.taken ≡ k → p.fork ≡ count (reach b w).forks → Stands root t b w k → Proper (w ++ p ∷ []) 1 → Undoes e.undo t e.step → e.outcome ≡ outcome_of t e.step →
    Grown root b w k (next t e.step) (at_end (with_fork (sprout k e)) b w) (w ++ p ∷ []) 1 e.number e.step false
grown_split root t b w k e p lw qw et ef h q r o =
    let c = reach b w in
    let s = base_at root b w in
    let y = stands_way root t b w k h in
    let a = h.holds.ends in
    let x : PlainBranch = sprout k e in
    let f : PlainBranch → PlainBranch = with_fork x in
    let at_c : reach (at_end f b w) w ≡ f c = reach-at_end f b w y in
    let at_s : base_at root (at_end f b w) w ≡ s = base_at-at_end f root b w y in
    let got : fork_at (add_fork c.forks x) p.fork ≡ x = ap (λ z. fork_at (add_fork c.forks x) z) ef ∙ fork_at-add c.forks x in
    let there : reach (at_end f b w) (w ++ p ∷ []) ≡ x = reach-more (at_end f b w) w p ∙ ap (λ z. fork_at z.forks p.fork) at_c ∙ got in
    let base : base_at root (at_end f b w) (w ++ p ∷ []) ≡ t =
    base_at-more root (at_end f b w) w p ∙ ap (λ z. after z p.taken (reach (at_end f b w) w).run) at_s ∙ ap (λ z. after s p.taken z.run) at_c ∙ ap (λ z. after s z c.run) et ∙ sym h.now_at in
    let last : Context s (f c) (p ∷ []) =
    (rw et a.0, rw et a.1, rw ef (AllBut-add s c.run c.forks x a.2), (let n = count-add c.forks x in omega (arith, n, ef)), ap (λ z. z.from) got ∙ sym et, tt) in
    let ctx : Context root (at_end f b w) (w ++ p ∷ []) =
    Context-more root (at_end f b w) w p (Context-at_end f root b w (λ d. refl) h.holds.context)
    (subst (λ z. Context z (reach (at_end f b w) w) (p ∷ [])) (sym at_s) (subst (λ z. Context s z (p ∷ [])) (sym at_c) last)) in
    let ends : Ends t x 1 = (omega arith, (r, o, tt), tt) in
    record {
      stands = record {
        holds = record { context = ctx; ends = subst (λ z. Ends z (reach (at_end f b w) (w ++ p ∷ [])) 1) (sym base) (subst (λ z. Ends t z 1) (sym there) ends) };
        now_at = sym (ap (λ z. after z 1 (reach (at_end f b w) (w ++ p ∷ [])).run) base ∙ ap (λ z. after t 1 z.run) there);
      };
      proper = q;
      below = subst (λ z. Below w z (w ++ p ∷ []) 1) et (fork_off p);
      stays = λ v i z. stays f (covers_fork x) b w v i 0 y z;
      fitted = λ rows z m g. fitted_split rows b w k e.number (start_at 0 b w) x y qw a.0 lw (Known-reach rows root 0 true b w h.holds.context z).1 m refl refl refl g;
      numbered = ap (λ z. number_after (start_at 0 (at_end f b w) (w ++ p ∷ [])) 1 z.run) there;
      others = λ m z. find-at_end f m 0 true b w (λ d. refl) (λ i d.
          ap (λ v. or_else (find_run m i d c.run) v) (find_forks-add_other m i c.run c.forks x (λ j. find-sprout_other m k j e z)));
      fresh = λ z. find-new f root e.number 0 true b w _ (λ d. refl) h.holds.context z (λ v.
          let n = or_else-none _ _ v in
          ap (λ i. or_else i (find_forks e.number (start_at 0 b w) c.run (add_fork c.forks x))) n.0
          ∙ find_forks-add_new e.number (start_at 0 b w) c.run c.forks x _ n.1 (find-sprout_same k (number_after (start_at 0 b w) k c.run) e));
      known = λ rows z v.
          let g = Known-reach rows root 0 true b w h.holds.context z in
          Known-at_end f rows root 0 true b w (λ d. refl) h.holds.context z
          (g.0, KnownForks-add rows (start_at 0 b w) c.run c.forks x g.1 ((v, tt), tt));
    }

-- rows
pub length_rows : (k : ℕ) (b : PlainBranch) → length (rows_of k b) ≡ k
unfolding rows_of
length_rows zero b = refl
length_rows (suc k) b = let h = length_rows k b in omega (arith, h, length_push (rows_of k b) (find_in (suc k) 0 true b))

pub rows_of-suc : (k : ℕ) (b : PlainBranch) → rows_of (suc k) b ≡ rows_of k b ++ (find_in (suc k) 0 true b ∷ [])
unfolding rows_of
rows_of-suc k b = refl

rows_of-below : (b c : PlainBranch) (k : ℕ) → ((n : ℕ) → n ≤ k → find_in n 0 true c ≡ find_in n 0 true b) → rows_of k c ≡ rows_of k b
unfolding rows_of
rows_of-below b c zero h = refl
rows_of-below b c (suc k) h = ap (λ z. z ++ (find_in (suc k) 0 true c ∷ [])) (rows_of-below b c k (λ n l. h n (omega (arith, l)))) ∙ ap (λ z. rows_of k b ++ (z ∷ [])) (h (suc k) (omega arith))

pub row_of-last : (rows : List (Option Row)) (o : Option Row) → row_of (rows ++ o ∷ []) (suc (length rows)) ≡ o
row_of-last [] o = refl
row_of-last (q ∷ []) o = refl
row_of-last (q ∷ (p ∷ ps)) o = row_of-last (p ∷ ps) o

pub row_of-older : (rows : List (Option Row)) (o : Option Row) (n : ℕ) → n ≤ length rows → row_of (rows ++ o ∷ []) n ≡ row_of rows n
row_of-older rows o zero h = refl
row_of-older [] o (suc n) h = absurd (omega arith)
row_of-older (q ∷ qs) o (suc zero) h = refl
row_of-older (q ∷ qs) o (suc (suc n)) h = row_of-older qs o (suc n) (omega arith)

eqb-less : (n m : ℕ) → n < m → eqb m n ≡ false
eqb-less n m h = grind (arith, nat_tests)

eqb-more : (n m : ℕ) → n < m → eqb n m ≡ false
eqb-more n m h = grind (arith, nat_tests)

none_run : (rows : List (Option Row)) (n p : ℕ) (c : Bool) (run : List PlainNode) → length rows < n → KnownRun rows p c run → find_run n p c run ≡ None
none_run rows n p c [] l h = refl
none_run rows n p c (e ∷ es) l h =
    let w = row_of-within rows e.number _ h.0 in
    ap (λ z. cond z (Some (row p e.step c)) (find_run n e.number true es)) (eqb-less e.number n (omega (arith, w))) ∙ none_run rows n e.number true es l h.1

none_forks : (rows : List (Option Row)) (n p : ℕ) (run : List PlainNode) (f : Forks) → length rows < n → KnownForks rows p run f → find_forks n p run f ≡ None
none_forks rows n p run bare l h = refl
none_forks rows n p run (fork f r i m) l h =
    ap (λ z. or_else (or_else z (find_forks n (number_after p f run) r i)) (find_forks n p run m)) (none_run rows n (number_after p f run) false r l h.0)
    ∙ ap (λ z. or_else z (find_forks n p run m)) (none_forks rows n (number_after p f run) r i l h.1)
    ∙ none_forks rows n p run m l h.2

pub none_above : (rows : List (Option Row)) (n p : ℕ) (c : Bool) (b : PlainBranch) → length rows < n → Known rows p c b → find_in n p c b ≡ None
none_above rows n p c b l h = ap (λ z. or_else z (find_forks n p b.run b.forks)) (none_run rows n p c b.run l h.0) ∙ none_forks rows n p b.run b.forks l h.1

number_le : (rows : List (Option Row)) (p k : ℕ) (c : Bool) (run : List PlainNode) → p ≤ length rows → KnownRun rows p c run → number_after p k run ≤ length rows
number_le rows p zero c run l h = l
number_le rows p (suc k) c [] l h = l
number_le rows p (suc k) c (e ∷ es) l h = number_le rows e.number k true es (row_of-within rows e.number _ h.0) h.1

pub number_at_le : (rows : List (Option Row)) (s : State) (p k : ℕ) (c : Bool) (b : PlainBranch) (w : List Junction) → Context s b w → p ≤ length rows → Known rows p c b → number_after (start_at p b w) k (reach b w).run ≤ length rows
number_at_le rows s p k c b [] h l n = number_le rows p k c b.run l n.0
number_at_le rows s p k c b (q ∷ qs) h l n =
    number_at_le rows (after s q.taken b.run) (number_after p q.taken b.run) k false (fork_at b.forks q.fork) qs h.5 (number_le rows p q.taken c b.run l n.0) (Known-down rows s p b q qs h n.1)

pub le_cases : (n m : ℕ) → (n ≤ m) ⊎ (m < n)
le_cases zero m = inl (omega arith)
le_cases (suc n) zero = inr (omega arith)
le_cases (suc n) (suc m) = ⊎_elim (λ h. inl (omega (arith, h))) (λ h. inr (omega (arith, h))) (le_cases n m)

falls_case : (rows : List (Option Row)) (r : Row) → RowsFall rows → r.parent ≤ length rows → (n : ℕ) (q : Row) → row_of (rows ++ Some r ∷ []) n ≡ Some q → (n ≤ length rows) ⊎ (length rows < n) → q.parent < n
falls_case rows r h l n q e (inl a) = h n q (sym (row_of-older rows (Some r) n a) ∙ e)
falls_case rows r h l n q e (inr a) =
    let u = row_of-within (rows ++ Some r ∷ []) n q e in
    let v = length_push rows (Some r) in
    let m : n ≡ suc (length rows) = omega (arith, u, v) in
    let s : Some r ≡ Some q = sym (row_of-last rows (Some r)) ∙ sym (ap (λ z. row_of (rows ++ Some r ∷ []) z) m) ∙ e in
    let i : r ≡ q = cc in
    rw (← i) (omega (arith, l, a))

pub falls_more : (rows : List (Option Row)) (r : Row) → RowsFall rows → r.parent ≤ length rows → RowsFall (rows ++ Some r ∷ [])
falls_more rows r h l n q e = falls_case rows r h l n q e (le_cases n (length rows))

-- a session after a play
pub grown_rows : (root t u : State) (b c : PlainBranch) (w v : List Junction) (k j issued : ℕ) (d : Step) (g : Bool) → Kept root t b w k issued → Grown root b w k u c v j (suc issued) d g → rows_of (suc issued) c ≡ rows_of issued b ++ (Some (row (number_at b w k) d g) ∷ [])
grown_rows root t u b c w v k j issued d g h m =
    let n = length_rows issued b in
    rows_of-suc issued c
    ∙ ap (λ z. z ++ (find_in (suc issued) 0 true c ∷ [])) (rows_of-below b c issued (λ i l. m.others i (eqb-more i (suc issued) (omega (arith, l)))))
    ∙ ap (λ z. rows_of issued b ++ (z ∷ [])) (m.fresh (none_above (rows_of issued b) (suc issued) 0 true b (omega (arith, n)) h.known))

pub grown_kept : (root t u : State) (b c : PlainBranch) (w v : List Junction) (k j issued : ℕ) (d : Step) (g : Bool) → issued < 1048576 → Kept root t b w k issued → Grown root b w k u c v j (suc issued) d g → Kept root u c v j (suc issued)
grown_kept root t u b c w v k j issued d g l h m =
    let e = sym (grown_rows root t u b c w v k j issued d g h m) in
    let rows = rows_of issued b in
    let r = row (number_at b w k) d g in
    let n = length_rows issued b in
    let p = number_at_le rows root 0 k true b w h.stands.holds.context (omega arith) h.known in
    let o : row_of (rows ++ Some r ∷ []) (suc issued) ≡ Some r = ap (λ z. row_of (rows ++ Some r ∷ []) (suc z)) (sym n) ∙ row_of-last rows (Some r) in
    record {
      sound = h.sound;
      stands = m.stands;
      proper = m.proper;
      few = omega arith;
      fitted = m.fitted rows h.known (omega (arith, n)) h.fitted;
      falls = subst (λ z. RowsFall z) e (falls_more rows r h.falls p);
      known = subst (λ z. Known z 0 true c) e (m.known (rows ++ Some r ∷ []) (KnownRun-more rows (Some r) 0 true b.run h.known.0, KnownForks-more rows (Some r) 0 b.run b.forks h.known.1) o);
    }

eqb-true : (n m : ℕ) → n ≡ m → eqb n m ≡ true
eqb-true n m h = grind (arith, nat_tests)

-- as the code does it
pub grown_push_code : (root t u : State) (b c : PlainBranch) (w x : List Junction) (k j : ℕ) (e : PlainNode) → u ≡ next t e.step → c ≡ at_end (with_node e) b x → x ≡ w → j ≡ suc k → Proper w k → k ≡ length (reach b w).run →
    Stands root t b w k → Undoes e.undo t e.step → e.outcome ≡ outcome_of t e.step → Grown root b w k u c w j e.number e.step (eqb k (length (reach b w).run))
grown_push_code root t u b c w x k j e eu ec ex ej q l h r o = subst (λ z. Grown root b w k u c w j e.number e.step z) (sym (eqb-true k _ l)) (rw (eu, ec, ex, ej) (grown_push root t b w k e h q l r o))

pub grown_split_code : (root t u : State) (b c y : PlainBranch) (w x v : List Junction) (k i : ℕ) (e : PlainNode) → u ≡ next t e.step → y ≡ sprout k e → c ≡ at_end (with_fork y) b x → x ≡ w → v ≡ w ++ record { taken = k; fork = i } ∷ [] → i ≡ count (reach b w).forks → Proper w k → length w < 64 → k < length (reach b w).run →
    Stands root t b w k → Undoes e.undo t e.step → e.outcome ≡ outcome_of t e.step → Grown root b w k u c v 1 e.number e.step (eqb k (length (reach b w).run))
grown_split_code root t u b c y w x v k i e eu ey ec ex ev ei q lw lk h r o =
    let p : Junction = record { taken = k; fork = i } in
    let g = grown_split root t b w k e p lw q refl ei h (Proper-fork w p q) r o in
    subst (λ z. Grown root b w k u c v 1 e.number e.step z) (sym (eqb-more k _ lk)) (subst (λ z. Grown root b w k z c v 1 e.number e.step false) (sym eu) (subst (λ z. Grown root b w k (next t e.step) z v 1 e.number e.step false) (sym (ec ∙ ap (λ z. at_end (with_fork z) b x) ey ∙ ap (λ z. at_end (with_fork (sprout k e)) b z) ex)) (subst (λ z. Grown root b w k (next t e.step) (at_end (with_fork (sprout k e)) b w) z 1 e.number e.step false) (sym ev) g)))

-- the states at both ends of a record are sound, so the current state is
sound_after : (s : State) (k j : ℕ) (run : List PlainNode) → Sound s → RunHolds s run j → Sound (after s k run)
sound_after s zero j run h r = h
sound_after s (suc k) j [] h r = h
sound_after s (suc k) zero (e ∷ es) h r = sound_after (next s e.step) k zero es (leads_sound r.0.leads).1 r.2
sound_after s (suc k) (suc j) (e ∷ es) h r = sound_after (next s e.step) k j es (leads_sound r.0.leads).0 r.2

sound_base : (s : State) (b : PlainBranch) (w : List Junction) → Sound s → Context s b w → Sound (base_at s b w)
sound_base s b [] h c = h
sound_base s b (p ∷ ps) h c = sound_base (after s p.taken b.run) (fork_at b.forks p.fork) ps (sound_after s p.taken p.taken b.run h c.1) c.5

pub kept_sound : (root t : State) (b : PlainBranch) (w : List Junction) (k issued : ℕ) → Kept root t b w k issued → Sound t
kept_sound root t b w k issued h = subst Sound (sym h.stands.now_at) (sound_after _ k k _ (sound_base root b w h.sound h.stands.holds.context) h.stands.holds.ends.1)

-- a session opened
no_rows : (n : ℕ) (r : Row) → row_of [] n ≡ Some r → ⊥
no_rows zero r h = cc
no_rows (suc n) r h = cc

pub open_kept : (t : State) (b : PlainBranch) (w : List Junction) → Sound t → b ≡ record { from = 0; run = []; forks = bare } → w ≡ [] → Kept (rewind b w 0 t) t b w 0 0
unfolding rows_of
open_kept t b w h e f = rw (e, f) (record {
  sound = h;
  stands = record { holds = record { context = tt; ends = (omega arith, tt, tt) }; now_at = refl };
  proper = tt;
  few = omega arith;
  fitted = tt;
  falls = λ n r g. absurd (no_rows n r g);
  known = (tt, tt);
})

pub open_state : (t : State) (b : PlainBranch) (w : List Junction) → b ≡ record { from = 0; run = []; forks = bare } → w ≡ [] → ◌≡◌ {A = SessionState} (record { root = rewind b w 0 t; rows = rows_of 0 b; current = number_at b w 0 }) (record { root = t; rows = []; current = 0 })
unfolding rows_of
open_state t b w e f = rw (e, f) refl

-- a session after a play, as the code numbers it
pub play_kept : (root t u : State) (b c : PlainBranch) (w v : List Junction) (k j issued n : ℕ) (d : Step) → Kept root t b w k issued → issued < 1048576 → n ≡ suc issued → (o : Bool) → Grown root b w k u c v j n d o → Kept (rewind c v j u) u c v j n
play_kept root t u b c w v k j issued n d h l e o m =
    let x = subst (λ z. Grown root b w k u c v j z d o) e m in
    rw (stands_root root u c v j x.stands, e) (grown_kept root t u b c w v k j issued d o l h x)

pub play_state : (root t u : State) (b c : PlainBranch) (w v : List Junction) (k j issued n : ℕ) (d : Step) → Kept root t b w k issued → n ≡ suc issued → (o p : Bool) → o ≡ p → Grown root b w k u c v j n d o →
    ◌≡◌ {A = SessionState} (record { root = rewind c v j u; rows = rows_of n c; current = number_at c v j }) (record { root = root; rows = rows_of issued b ++ (Some (row (number_at b w k) d p) ∷ []); current = n })
play_state root t u b c w v k j issued n d h e o p eo m =
    let x = subst (λ z. Grown root b w k u c v j z d o) e m in
    let r : rows_of n c ≡ rows_of issued b ++ (Some (row (number_at b w k) d p) ∷ []) = ap (λ z. rows_of z c) e ∙ grown_rows root t u b c w v k j issued d o h x ∙ ap (λ z. rows_of issued b ++ (Some (row (number_at b w k) d z) ∷ [])) eo in
    ap (λ z. let y : SessionState = record { root = z; rows = rows_of n c; current = number_at c v j } in y) (stands_root root u c v j x.stands)
    ∙ ap (λ z. let y : SessionState = record { root = root; rows = z; current = number_at c v j } in y) r
    ∙ ap (λ z. let y : SessionState = record { root = root; rows = rows_of issued b ++ (Some (row (number_at b w k) d p) ∷ []); current = z } in y) m.numbered
