-- A session after a prune.
use Rattle.std.proofs.Common.{◌≡◌, ℕ, suc, zero, ◌+◌, ◌-◌, ◌<◌, ◌≤◌, Bool, true, false, cond, eqb, nat_eq, List, [], ◌∷◌, ◌++◌, length, slice_get, refl, ap, sym, ◌∙◌, subst, arith, Option, Some, None, ◌⊎◌, inl, inr, ⊎_elim}
use Rattle.std.proofs.lemmas.Bool.{cases_Bool, false≢true}
use Rattle.std.proofs.lemmas.Bool.Decides.{nat_tests}
use Rattle.rev_tree.specs.Steps.{State}
use Rattle.rev_tree.specs.Tree.{PlainNode, PlainBranch, Forks, bare, fork, fork_at}
use Rattle.rev_tree.specs.Ways.{reach, at_end}
use Rattle.rev_tree.specs.States.{rewind}
use Rattle.rev_tree.specs.Rows.{Row, row, row_of, number_after, start_at, number_at, find_in, find_run, find_forks, or_else, rows_of, Known, KnownRun, KnownForks}
use Rattle.rev_tree.specs.Positions.{SessionState, Kept, Proper, depth}
use Rattle.rev_tree.specs.Paths.{IsPath, IsOnWay}
use Rattle.rev_tree.specs.Order.{Fitted}
use Rattle.rev_tree.specs.Finds.{FoundAt, is_held}
use Rattle.rev_tree.specs.Machine.{lineage}
use Rattle.rev_tree.specs.Trails.{cut}
use Rattle.rev_tree.specs.Prunes.{is_among, is_below, spared, pruned, cropped}
use Rattle.rev_tree.proofs.Positions.{stands_root}
use Rattle.rev_tree.proofs.Rows.{cond-none, or_else-none, fork-none}
use Rattle.rev_tree.proofs.Growth.{length_rows}
use Rattle.rev_tree.proofs.Fits.{row_of-within, path_proper}
use Rattle.rev_tree.proofs.Finds.{number_of, number_after-get}
use Rattle.rev_tree.proofs.Held.{row_find, row_found, option_case, path_held}
use Rattle.rev_tree.proofs.Spots.{Tree, spot, same_spot, or_else-some, path_within, path_positive}
use Rattle.rev_tree.proofs.Machine.{kept_tree, kept_path}
use Rattle.rev_tree.proofs.Trips.{lineage_depth}
use Rattle.rev_tree.proofs.Trails.{Position, cut_near, cut_far, cut_path, cut_proper, cut_positive, lineage_cut, split_le}
use Rattle.rev_tree.proofs.Subs.{Sub, holds_sub, state_sub, known_sub, fitted_sub, number_at-sub, path_sub}
use Rattle.rev_tree.proofs.Crops.{sub_crop, crop_gone, crop_left}
use Rattle.rev_tree.specs.declared.junction.Junction.{Junction}

eqb-same : (n m : ℕ) → eqb n m ≡ true → m ≡ n
eqb-same n m e = grind (arith, nat_tests)

eqb-own : (n m : ℕ) → n ≡ m → eqb m n ≡ true
eqb-own n m e = grind (arith, nat_tests)

-- what is found is known
cond_split : (t : Bool) (x y o : Option Row) → cond t x y ≡ o → ((t ≡ true) × (x ≡ o)) ⊎ (y ≡ o)
cond_split true x y o e = inl (refl, e)
cond_split false x y o e = inr e

known_run : (rows : List (Option Row)) (n p : ℕ) (c : Bool) (run : List PlainNode) (r : Row) → KnownRun rows p c run → find_run n p c run ≡ Some r → row_of rows n ≡ Some r
known_run rows n p c [] r k e = cc
known_run rows n p c (e ∷ es) r k h = ⊎_elim
    (λ s. ap (λ z. row_of rows z) (sym (eqb-same n e.number s.0)) ∙ k.0 ∙ s.1)
    (λ s. known_run rows n e.number true es r k.1 s)
    (cond_split (eqb n e.number) (Some (row p e.step c)) (find_run n e.number true es) (Some r) h)

known_forks : (rows : List (Option Row)) (n p : ℕ) (run : List PlainNode) (f : Forks) (r : Row) → KnownForks rows p run f → find_forks n p run f ≡ Some r → row_of rows n ≡ Some r
known_forks rows n p run bare r k e = cc
known_forks rows n p run (fork f s i m) r k h =
    let q = number_after p f run in
    ⊎_elim
    (λ u. ⊎_elim (λ v. known_run rows n q false s r k.0 v) (λ v. known_forks rows n q s i r k.1 v) (or_else-some (find_run n q false s) (find_forks n q s i) r u))
    (λ u. known_forks rows n p run m r k.2 u)
    (or_else-some (or_else (find_run n q false s) (find_forks n q s i)) (find_forks n p run m) r h)

known_found : (rows : List (Option Row)) (n p : ℕ) (c : Bool) (b : PlainBranch) (r : Row) → Known rows p c b → find_in n p c b ≡ Some r → row_of rows n ≡ Some r
known_found rows n p c b r k h = ⊎_elim (λ u. known_run rows n p c b.run r k.0 u) (λ u. known_forks rows n p b.run b.forks r k.1 u) (or_else-some (find_run n p c b.run) (find_forks n p b.run b.forks) r h)

-- rows that have each node which is found
abbrev Carries : List (Option Row) → List (Option Row) → (ℕ → Option Row) → Type 0
Carries rows more f = (n : ℕ) (r : Row) → (f n ≡ None → ⊥) → row_of rows n ≡ Some r → row_of more n ≡ Some r

none-some : (r : Row) (o : Option Row) → Some r ≡ None → ⊥
none-some r o e = cc

through_run : (rows more : List (Option Row)) (p : ℕ) (c : Bool) (run : List PlainNode) → KnownRun rows p c run → Carries rows more (λ n. find_run n p c run) → KnownRun more p c run
through_run rows more p c [] k h = tt
through_run rows more p c (e ∷ es) k h = (
  h e.number (row p e.step c) (λ z. false≢true (sym (cond-none (eqb e.number e.number) (row p e.step c) (find_run e.number e.number true es) z).0 ∙ eqb-own e.number e.number refl)) k.0,
  through_run rows more e.number true es k.1 (λ n r o g. h n r (λ z. o (cond-none (eqb n e.number) (row p e.step c) (find_run n e.number true es) z).1) g),
)

through_forks : (rows more : List (Option Row)) (p : ℕ) (run : List PlainNode) (f : Forks) → KnownForks rows p run f → Carries rows more (λ n. find_forks n p run f) → KnownForks more p run f
through_forks rows more p run bare k h = tt
through_forks rows more p run (fork f s i m) k h =
    let q = number_after p f run in (
      through_run rows more q false s k.0 (λ n r o g. h n r (λ z. o (or_else-none _ _ (or_else-none _ _ z).0).0) g),
      through_forks rows more q s i k.1 (λ n r o g. h n r (λ z. o (or_else-none _ _ (or_else-none _ _ z).0).1) g),
      through_forks rows more p run m k.2 (λ n r o g. h n r (λ z. o (or_else-none _ _ z).1) g),
    )

known_through : (rows more : List (Option Row)) (p : ℕ) (c : Bool) (b : PlainBranch) → Known rows p c b → Carries rows more (λ n. find_in n p c b) → Known more p c b
known_through rows more p c b k h = (
  through_run rows more p c b.run k.0 (λ n r o g. h n r (λ z. o (or_else-none _ _ z).0) g),
  through_forks rows more p b.run b.forks k.1 (λ n r o g. h n r (λ z. o (or_else-none _ _ z).1) g),
)

-- what stands there is found
run_there : (n p : ℕ) (c : Bool) (run : List PlainNode) (k : ℕ) → k < length run → number_of run k ≡ n → find_run n p c run ≡ None → ⊥
run_there n p c [] k l e h = omega (arith, l)
run_there n p c (e ∷ es) zero l g h = false≢true (sym (cond-none (eqb n e.number) (row p e.step c) (find_run n e.number true es) h).0 ∙ eqb-own e.number n g)
run_there n p c (e ∷ es) (suc k) l g h = run_there n e.number true es k (omega (arith, l)) g (cond-none (eqb n e.number) (row p e.step c) (find_run n e.number true es) h).1

there : (n p : ℕ) (c : Bool) (b : PlainBranch) (w : List Junction) (j : ℕ) → IsPath b w (suc j) → number_of (reach b w).run j ≡ n → find_in n p c b ≡ None → ⊥
there n p c b [] j q e h = run_there n p c b.run j (omega (arith, q)) e (or_else-none _ _ h).0
there n p c b (x ∷ xs) j q e h =
    there n (number_after p (fork_at b.forks x.fork).from b.run) false (fork_at b.forks x.fork) xs j q.3 e (fork-none n p b.run b.forks x.fork q.1 (or_else-none _ _ h).1)

-- lineages and ways
cut_on : (w : List Junction) (k d : ℕ) → d ≤ depth w k → IsOnWay (cut w d).0 (cut w d).1 w k
cut_on [] k d l = l
cut_on (p ∷ ps) k d l = ⊎_elim
    (λ h. subst (λ (z : Position). IsOnWay z.0 z.1 (p ∷ ps) k) (sym (cut_near p ps d h)) h)
    (λ h. subst (λ (z : Position). IsOnWay z.0 z.1 (p ∷ ps) k) (sym (cut_far p ps d h)) (refl, cut_on ps k (d - p.taken) (omega (arith, l, h))))
    (split_le d p.taken)

depth_least : (w : List Junction) (k : ℕ) → k ≤ depth w k
depth_least [] k = omega arith
depth_least (p ∷ ps) k = let r = depth_least ps k in omega (arith, r)

on_cut : (w : List Junction) (k : ℕ) (x : List Junction) (i d : ℕ) → 0 < k → d ≡ depth w k → IsOnWay w k x i → cut x d ≡ (w, k)
on_cut [] k [] i d l e o = ap (λ z. let y : Position = ([], z) in y) e
on_cut [] k (x ∷ xs) i d l e o = cut_near x xs d (omega (arith, e, o)) ∙ ap (λ z. let y : Position = ([], z) in y) e
on_cut (p ∷ ps) k [] i d l e o = absurd o
on_cut (p ∷ ps) k (x ∷ xs) i d l e o =
    let t = ap (λ (z : Junction). z.taken) o.0 in
    let m = depth_least ps k in
    cut_far x xs d (omega (arith, l, e, t, m)) ∙ ap (λ (z : Position). let y : Position = (x ∷ z.0, z.1) in y) (on_cut ps k xs i (d - x.taken) l (omega (arith, e, t)) o.1)
    ∙ ap (λ z. let y : Position = (z ∷ ps, k) in y) (sym o.0)

depth_on : (w : List Junction) (k : ℕ) (x : List Junction) (i : ℕ) → IsOnWay w k x i → depth w k ≤ depth x i
depth_on [] k [] i o = o
depth_on [] k (x ∷ xs) i o = omega (arith, o)
depth_on (p ∷ ps) k [] i o = absurd o
depth_on (p ∷ ps) k (x ∷ xs) i o = let t = ap (λ (z : Junction). z.taken) o.0 in let r = depth_on ps k xs i o.1 in omega (arith, t, r)

among_get : (n : ℕ) (l : List ℕ) → is_among n l ≡ true → (i : ℕ) × (i < length l) × (slice_get l i ≡ Some n)
among_get n [] e = absurd (false≢true e)
among_get n (m ∷ ms) e = elim (cases_Bool (nat_eq m n)) [
  | inl g ↦ (0, omega arith, let u : m ≡ n = grind (arith, nat_tests) in ap Some u)
  | inr g ↦ let r = among_get n ms (rw g at e) in let l = r.1 in (suc r.0, omega (arith, l), r.2)
]

get_among : (n i : ℕ) (l : List ℕ) → slice_get l i ≡ Some n → is_among n l ≡ true
get_among n i [] e = cc
get_among n zero (m ∷ ms) e = let u : m ≡ n = cc in let g : nat_eq m n ≡ true = grind (arith, nat_tests) in ap (λ z. cond z true (is_among n ms)) g
get_among n (suc i) (m ∷ ms) e = elim (cases_Bool (nat_eq m n)) [
  | inl g ↦ ap (λ z. cond z true (is_among n ms)) g
  | inr g ↦ ap (λ z. cond z true (is_among n ms)) g ∙ get_among n i ms e
]

some-same : (n m : ℕ) → Some n ≡ Some m → n ≡ m
some-same n m e = cc

pub below_on : (rows : List (Option Row)) (b : PlainBranch) (w x : List Junction) (k i : ℕ) → Tree rows b → IsPath b w k → Proper w k → IsPath b x i → Proper x i → is_below rows (number_at b w k) (number_at b x i) ≡ true → IsOnWay w k x i
below_on rows b w x k i t q o g y e =
    let s = among_get (number_at b w k) (lineage rows (number_at b x i)) e in
    let l = lineage_depth rows b x i t g y in
    let a = s.1 in
    let d = suc s.0 in
    let high : d ≤ depth x i = omega (arith, a, l) in
    let low : 0 < d = omega arith in
    let c = lineage_cut rows b x i t g y d low high in
    let back : d - 1 ≡ s.0 = omega arith in
    let same = some-same (number_at b (cut x d).0 (cut x d).1) (number_at b w k) (sym c ∙ ap (λ z. slice_get (lineage rows (number_at b x i)) z) back ∙ s.2) in
    let p = same_spot rows b (cut x d).0 w (cut x d).1 k t (cut_path b x i d g high) q (cut_proper x i d y low) o same in
    subst (λ z. IsOnWay w z x i) p.1 (subst (λ z. IsOnWay z (cut x d).1 x i) p.0 (cut_on x i d high))

pub on_below : (rows : List (Option Row)) (b : PlainBranch) (w x : List Junction) (k i : ℕ) → Tree rows b → 0 < k → IsPath b x i → Proper x i → IsOnWay w k x i → is_below rows (number_at b w k) (number_at b x i) ≡ true
on_below rows b w x k i t pos g y o =
    let m = depth_least w k in
    let c = lineage_cut rows b x i t g y (depth w k) (omega (arith, pos, m)) (depth_on w k x i o) in
    get_among (number_at b w k) (depth w k - 1) (lineage rows (number_at b x i)) (c ∙ ap (λ (z : Position). Some (number_at b z.0 z.1)) (on_cut w k x i (depth w k) pos refl o))

-- the rows of what is left
spared-push : (rows : List (Option Row)) (n k : ℕ) (qs : List (Option Row)) (q : Option Row) → spared rows n k (qs ++ q ∷ []) ≡ spared rows n k qs ++ cond (is_below rows n (suc (k + length qs))) None q ∷ []
spared-push rows n k [] q = let e : k + 0 ≡ k = omega arith in ap (λ z. cond (is_below rows n (suc z)) None q ∷ []) (sym e)
spared-push rows n k (x ∷ xs) q =
    let e : suc k + length xs ≡ k + suc (length xs) = omega arith in
    ap (λ z. cond (is_below rows n (suc k)) None x ∷ z) (spared-push rows n (suc k) xs q)
    ∙ ap (λ z. cond (is_below rows n (suc k)) None x ∷ (spared rows n (suc k) xs ++ cond (is_below rows n (suc z)) None q ∷ [])) e

spared_rows : (rows : List (Option Row)) (n : ℕ) (b c : PlainBranch) (k : ℕ) → ((m : ℕ) → find_in m 0 true c ≡ cond (is_below rows n m) None (find_in m 0 true b)) → rows_of k c ≡ spared rows n 0 (rows_of k b)
unfolding rows_of
spared_rows rows n b c zero h = refl
spared_rows rows n b c (suc k) h =
    let l : 0 + length (rows_of k b) ≡ k = let e = length_rows k b in omega (arith, e) in
    ap (λ z. z ++ find_in (suc k) 0 true c ∷ []) (spared_rows rows n b c k h)
    ∙ ap (λ z. spared rows n 0 (rows_of k b) ++ z ∷ []) (h (suc k))
    ∙ ap (λ z. spared rows n 0 (rows_of k b) ++ cond (is_below rows n (suc z)) None (find_in (suc k) 0 true b) ∷ []) (sym l)
    ∙ sym (spared-push rows n 0 (rows_of k b) (find_in (suc k) 0 true b))

module _ (root t : State) (b : PlainBranch) (w v : List Junction) (here j issued n : ℕ) (h : Kept root t b w here issued) (p : FoundAt n b v (suc j)) where
  abbrev rows : List (Option Row)
  rows = rows_of issued b

  abbrev left : PlainBranch
  left = at_end (cropped j) b v

  tree : Tree rows b
  tree = kept_tree root t b w here issued h

  part : Sub b left
  part = sub_crop b v j 64 0 0 p.path h.fitted

  fits : Fitted left.forks left.run 64 0 0
  fits = fitted_sub b.forks left.forks b.run left.run 64 0 0 part.forks h.fitted

  known : Known rows 0 true left
  known = known_sub rows 0 true b left part h.known

  -- a node that is found in what is left is not below
  found_left : (m : ℕ) (r : Row) → find_in m 0 true left ≡ Some r → (row_of rows m ≡ Some r) × (is_below rows n m ≡ false)
  found_left m r e =
      let s = spot m 0 true left r 64 0 0 fits e in
      let o = path_proper left s.way s.at fits s.path s.inside in
      let q = path_sub b left s.way s.at part s.path o in
      let m' : number_at b s.way s.at ≡ m = sym (number_at-sub b left s.way s.at part s.path o) ∙ s.numbered 0 in (
        known_found rows m 0 true left r known e,
        elim (cases_Bool (is_below rows n m)) [
          | inl z ↦ absurd (crop_gone b v j s.way s.at p.path s.path (below_on rows b v s.way (suc j) s.at tree p.path p.proper q o (ap (λ i. is_below rows i (number_at b s.way s.at)) p.numbered ∙ ap (λ i. is_below rows n i) m' ∙ z)))
          | inr z ↦ z
        ],
      )

  -- a node that is not found is below, or was not there
  lost_left : (m : ℕ) (r : Row) → find_in m 0 true left ≡ None → is_below rows n m ≡ false → find_in m 0 true b ≡ Some r → ⊥
  lost_left m r e z g =
      let s = spot m 0 true b r 64 0 0 h.fitted g in
      let o = path_proper b s.way s.at h.fitted s.path s.inside in
      let m' : number_at b s.way s.at ≡ m = s.numbered 0 in
      let off : IsOnWay v (suc j) s.way s.at → ⊥ = λ y. false≢true (sym z ∙ sym (ap (λ i. is_below rows i (number_at b s.way s.at)) p.numbered ∙ ap (λ i. is_below rows n i) m') ∙ on_below rows b v s.way (suc j) s.at tree (omega arith) s.path o y) in
      let q = crop_left b v j s.way s.at p.path s.path off in
      let k : s.at ≡ suc (s.at - 1) = let l = s.inside in omega (arith, l) in
      let q' : IsPath left s.way (suc (s.at - 1)) = subst (λ y. IsPath left s.way y) k q in
      let at : number_of (reach left s.way).run (s.at - 1) ≡ m =
      sym (number_after-get (start_at 0 left s.way) (s.at - 1) (reach left s.way).run (path_within left s.way (suc (s.at - 1)) q'))
      ∙ ap (λ y. number_at left s.way y) (sym k) ∙ number_at-sub b left s.way s.at part q o ∙ m' in
      there m 0 true left s.way (s.at - 1) q' at e

  finds : (m : ℕ) → find_in m 0 true left ≡ cond (is_below rows n m) None (find_in m 0 true b)
  finds m = ⊎_elim
      (λ e. elim (cases_Bool (is_below rows n m)) [
        | inl z ↦ e ∙ ap (λ y. cond y None (find_in m 0 true b)) (sym z)
        | inr z ↦ e ∙ ⊎_elim (λ g. sym g) (λ g. absurd (lost_left m g.0 e z g.1)) (option_case (find_in m 0 true b)) ∙ ap (λ y. cond y None (find_in m 0 true b)) (sym z)
      ])
      (λ g.
      let f = found_left m g.0 g.1 in
      g.1 ∙ sym (row_found issued b m g.0 f.0) ∙ ap (λ y. cond y None (find_in m 0 true b)) (sym f.1))
      (option_case (find_in m 0 true left))

  pub pruned_rows : rows_of issued left ≡ pruned rows n
  pruned_rows = spared_rows rows n b left issued finds

  carries : Carries rows (rows_of issued left) (λ m. find_in m 0 true left)
  carries zero r o e = cc
  carries (suc m) r o e = ⊎_elim
      (λ z. absurd (o z))
      (λ z.
      let f = found_left (suc m) z.0 z.1 in
      let l = row_of-within rows (suc m) r e in
      let u = length_rows issued b in
      row_find issued left m (omega (arith, l, u)) ∙ z.1 ∙ sym f.0 ∙ e)
      (option_case (find_in (suc m) 0 true left))

  pub pruned_kept : (IsOnWay v (suc j) w here → ⊥) → Kept root t left w here issued
  pruned_kept off =
      let q = crop_left b v j w here p.path (kept_path root t b w here issued h) off in
      record {
        sound = h.sound;
        stands = record {
          holds = holds_sub root b left w here part q h.proper h.stands.holds;
          now_at = h.stands.now_at ∙ sym (state_sub root b left w here part q h.proper);
        };
        proper = h.proper;
        falls = λ m r e. h.falls m r (found_left m r (row_found issued left m r e)).0;
        known = known_through rows (rows_of issued left) 0 true left known carries;
        few = h.few;
        fitted = fits;
      }

  pub pruned_state : (IsOnWay v (suc j) w here → ⊥) → ◌≡◌ {A = SessionState} (record { root = rewind left w here t; rows = rows_of issued left; current = number_at left w here }) (record { root = root; rows = pruned rows n; current = number_at b w here })
  pruned_state off =
      let q = crop_left b v j w here p.path (kept_path root t b w here issued h) off in
      ap (λ z. let y : SessionState = record { root = z; rows = rows_of issued left; current = number_at left w here } in y) (stands_root root t left w here (pruned_kept off).stands)
      ∙ ap (λ z. let y : SessionState = record { root = root; rows = z; current = number_at left w here } in y) pruned_rows
      ∙ ap (λ z. let y : SessionState = record { root = root; rows = pruned rows n; current = z } in y) (number_at-sub b left w here part q h.proper)

-- a node that another is below is held, and no root
pub record Spotted (b : PlainBranch) (n : ℕ) : Type 0 where
  pub way : List Junction
  pub at : ℕ
  pub path : IsPath b way at
  pub proper : Proper way at
  pub inside : 0 < at
  pub numbered : number_at b way at ≡ n

below_spot : (rows : List (Option Row)) (b : PlainBranch) (x : List Junction) (i n : ℕ) → Tree rows b → IsPath b x i → Proper x i → is_below rows n (number_at b x i) ≡ true → Spotted b n
below_spot rows b x i n t g y e =
    let s = among_get n (lineage rows (number_at b x i)) e in
    let l = lineage_depth rows b x i t g y in
    let a = s.1 in
    let d = suc s.0 in
    let high : d ≤ depth x i = omega (arith, a, l) in
    let low : 0 < d = omega arith in
    let back : d - 1 ≡ s.0 = omega arith in
    record {
      way = (cut x d).0;
      at = (cut x d).1;
      path = cut_path b x i d g high;
      proper = cut_proper x i d y low;
      inside = cut_positive x d low;
      numbered = some-same (number_at b (cut x d).0 (cut x d).1) n (sym (lineage_cut rows b x i t g y d low high) ∙ ap (λ z. slice_get (lineage rows (number_at b x i)) z) back ∙ s.2);
    }

pub below_held : (root t : State) (b : PlainBranch) (w : List Junction) (k issued n : ℕ) → Kept root t b w k issued → is_below (rows_of issued b) n (number_at b w k) ≡ true → is_held (rows_of issued b) n ≡ true
below_held root t b w k issued n h e =
    let s = below_spot (rows_of issued b) b w k n (kept_tree root t b w k issued h) (kept_path root t b w k issued h) h.proper e in
    path_held (rows_of issued b) b s.way s.at n s.path s.proper h.known s.numbered

pub below_root : (root t : State) (b : PlainBranch) (w : List Junction) (k issued n : ℕ) → Kept root t b w k issued → n ≡ 0 → is_below (rows_of issued b) n (number_at b w k) ≡ true → ⊥
below_root root t b w k issued n h z e =
    let s = below_spot (rows_of issued b) b w k n (kept_tree root t b w k issued h) (kept_path root t b w k issued h) h.proper e in
    let l = s.inside in
    let j : s.at ≡ suc (s.at - 1) = omega (arith, l) in
    let p = path_positive (rows_of issued b) b s.way (s.at - 1) h.falls h.known (subst (λ y. IsPath b s.way y) j s.path) in
    let m : number_at b s.way (suc (s.at - 1)) ≡ n = ap (λ y. number_at b s.way y) (sym j) ∙ s.numbered in
    omega (arith, p, m, z)

-- what the call answers
pub held_false : (rows : List (Option Row)) (n : ℕ) → (is_held rows n ≡ true → ⊥) → is_held rows n ≡ false
held_false rows n f = elim (cases_Bool (is_held rows n)) [
  | inl e ↦ absurd (f e)
  | inr e ↦ e
]

pub true_false : (c : Bool) → c ≡ true → c ≡ false → ⊥
true_false c e f = false≢true (sym f ∙ e)

pub root_held : (rows : List (Option Row)) (n : ℕ) → n ≡ 0 → is_held rows n ≡ true
root_held rows n e = ap (λ z. is_held rows z) e

-- as the code does it
placed_at : (n : ℕ) (b : PlainBranch) (v : List Junction) (at : ℕ) → 0 < at → FoundAt n b v at → FoundAt n b v (suc (at - 1))
placed_at n b v at l p = let e : at ≡ suc (at - 1) = omega (arith, l) in subst (λ z. FoundAt n b v z) e p

off_way : (v x w u : List Junction) (at here : ℕ) → 0 < at → x ≡ v → u ≡ w → (IsOnWay x at u here → ⊥) → IsOnWay v (suc (at - 1)) w here → ⊥
off_way v x w u at here l ex eu f o =
    let e : suc (at - 1) ≡ at = omega (arith, l) in
    f (subst (λ z. IsOnWay z at u here) (sym ex) (subst (λ z. IsOnWay v at z here) (sym eu) (subst (λ z. IsOnWay v z w here) e o)))

pub prune_kept : (root t : State) (b c : PlainBranch) (w v x y u : List Junction) (here at issued n : ℕ) → Kept root t b w here issued → FoundAt n b v at → 0 < at → x ≡ v → y ≡ v → u ≡ w → (IsOnWay x at u here → ⊥) → c ≡ at_end (cropped (at - 1)) b y → Kept (rewind c w here t) t c w here issued
prune_kept root t b c w v x y u here at issued n h p l ex ey eu f ec =
    let k = pruned_kept root t b w v here (at - 1) issued n h (placed_at n b v at l p) (off_way v x w u at here l ex eu f) in
    let e : c ≡ at_end (cropped (at - 1)) b v = ec ∙ ap (λ z. at_end (cropped (at - 1)) b z) ey in
    subst (λ z. Kept (rewind z w here t) t z w here issued) (sym e) (subst (λ z. Kept z t (at_end (cropped (at - 1)) b v) w here issued) (sym (stands_root root t (at_end (cropped (at - 1)) b v) w here k.stands)) k)

pub prune_state : (root t : State) (b c : PlainBranch) (w v x y u : List Junction) (here at issued n : ℕ) → Kept root t b w here issued → FoundAt n b v at → 0 < at → x ≡ v → y ≡ v → u ≡ w → (IsOnWay x at u here → ⊥) → c ≡ at_end (cropped (at - 1)) b y →
    ◌≡◌ {A = SessionState} (record { root = rewind c w here t; rows = rows_of issued c; current = number_at c w here }) (record { root = root; rows = pruned (rows_of issued b) n; current = number_at b w here })
prune_state root t b c w v x y u here at issued n h p l ex ey eu f ec =
    let e : c ≡ at_end (cropped (at - 1)) b v = ec ∙ ap (λ z. at_end (cropped (at - 1)) b z) ey in
    ap (λ z. let s : SessionState = record { root = rewind z w here t; rows = rows_of issued z; current = number_at z w here } in s) e
    ∙ pruned_state root t b w v here (at - 1) issued n h (placed_at n b v at l p) (off_way v x w u at here l ex eu f)

pub on_path_below : (root t : State) (b : PlainBranch) (w v x u : List Junction) (here at issued n : ℕ) → Kept root t b w here issued → FoundAt n b v at → 0 < at → x ≡ v → u ≡ w → IsOnWay x at u here → is_below (rows_of issued b) n (number_at b w here) ≡ true
on_path_below root t b w v x u here at issued n h p l ex eu o =
    ap (λ z. is_below (rows_of issued b) z (number_at b w here)) (sym p.numbered)
    ∙ on_below (rows_of issued b) b v w at here (kept_tree root t b w here issued h) l (kept_path root t b w here issued h) h.proper (subst (λ z. IsOnWay z at w here) ex (subst (λ z. IsOnWay x at z here) eu o))

pub off_path_below : (root t : State) (b : PlainBranch) (w v x u : List Junction) (here at issued n : ℕ) → Kept root t b w here issued → FoundAt n b v at → x ≡ v → u ≡ w → (IsOnWay x at u here → ⊥) → is_below (rows_of issued b) n (number_at b w here) ≡ true → ⊥
off_path_below root t b w v x u here at issued n h p ex eu f e =
    let o = below_on (rows_of issued b) b v w at here (kept_tree root t b w here issued h) p.path p.proper (kept_path root t b w here issued h) h.proper (ap (λ z. is_below (rows_of issued b) z (number_at b w here)) p.numbered ∙ e) in
    f (subst (λ z. IsOnWay z at u here) (sym ex) (subst (λ z. IsOnWay v at z here) (sym eu) o))
