-- The length of a trip is the distance of its ends.
use Rattle.std.proofs.Common.{◌≡◌, ℕ, suc, zero, ◌+◌, ◌<◌, ◌≤◌, Bool, true, false, cond, eqb, List, [], ◌∷◌, ◌++◌, length, take, slice_index_or, refl, ap, sym, ◌∙◌, subst, arith, append_assoc, Option, Some, None, ◌⊎◌, inl, inr, ⊎_elim}
use Rattle.std.specs.List.{sum_by}
use Rattle.std.proofs.lemmas.List.Sums.{sum_by-cons}
use Rattle.std.proofs.lemmas.List.{length_push, length-append, append-nil}
use Rattle.std.proofs.lemmas.Bool.Decides.{nat_tests}
use Rattle.rev_tree.specs.Tree.{PlainBranch, fork_at}
use Rattle.rev_tree.specs.Rows.{Row, row_of, row, RowsFall, number_at, rows_of, parent_of, option_parent}
use Rattle.rev_tree.specs.Positions.{Proper, Below, along, fork_off, depth, Kept}
use Rattle.rev_tree.specs.Paths.{IsPath, IsOnWay}
use Rattle.rev_tree.specs.Machine.{nodes_from, lineage_within, lineage, common, distance}
use Rattle.rev_tree.specs.Trips.{Climb, stay, up, Descent, stand, down, Trip}
use Rattle.rev_tree.proofs.Positions.{Proper-zero}
use Rattle.rev_tree.proofs.Fits.{row_of-within}
use Rattle.rev_tree.proofs.Growth.{length_rows}
use Rattle.rev_tree.proofs.Held.{path_row, row_found, option_case}
use Rattle.rev_tree.proofs.Machine.{kept_tree, kept_path}
use Rattle.rev_tree.specs.Finds.{FoundAt, IsMissing}
use Rattle.rev_tree.specs.Steps.{State}
use Rattle.rev_tree.proofs.Moves.{depth_below}
use Rattle.rev_tree.proofs.Spots.{Along, Off, step_of, Tree, path_less, path_more, row_along, row_fork, same_spot, played_at}
use Rattle.rev_tree.specs.declared.junction.Junction.{Junction}

-- the lineage, from scratch
nodes_from-same : (o : Option Row) (f g : Row → List ℕ) → ((r : Row) → o ≡ Some r → f r ≡ g r) → nodes_from o f ≡ nodes_from o g
nodes_from-same None f g h = refl
nodes_from-same (Some r) f g h = h r refl

lineage-enough : (rows : List (Option Row)) → RowsFall rows → (k j n : ℕ) → n ≤ k → n ≤ j → lineage_within k rows n ≡ lineage_within j rows n
lineage-enough rows w zero zero n h g = refl
lineage-enough rows w zero (suc j) zero h g = refl
lineage-enough rows w zero (suc j) (suc n) h g = absurd (omega (arith, h))
lineage-enough rows w (suc k) zero zero h g = refl
lineage-enough rows w (suc k) zero (suc n) h g = absurd (omega (arith, g))
lineage-enough rows w (suc k) (suc j) n h g =
    nodes_from-same (row_of rows n) _ _ (λ r e. let l = w n r e in ap (λ z. z ++ n ∷ []) (lineage-enough rows w k j r.parent (omega (arith, l, h)) (omega (arith, l, g))))

pub lineage-step : (rows : List (Option Row)) → RowsFall rows → (n : ℕ) (r : Row) → row_of rows n ≡ Some r → lineage rows n ≡ lineage rows r.parent ++ n ∷ []
unfolding lineage
lineage-step rows w zero r e = cc
lineage-step rows w (suc m) r e =
    let l = w (suc m) r e in
    ap (λ z. nodes_from z (λ q. lineage_within m rows q.parent ++ suc m ∷ [])) e ∙ ap (λ z. z ++ suc m ∷ []) (lineage-enough rows w m r.parent r.parent (omega (arith, l)) (omega arith))

-- one step
pub path_below : (b : PlainBranch) (v w : List Junction) (k j : ℕ) → Below v k w j → IsPath b w j → IsPath b v k
path_below b v w k j (along {w = x} {k = i}) q = path_less b x (suc i) i (omega arith) q
path_below b v w k j (fork_off {w = x} p) q = (path_more b x p 1 q).0

pub row_below : (rows : List (Option Row)) (b : PlainBranch) (v w : List Junction) (k j : ℕ) → Tree rows b → Below v k w j → IsPath b w j → Proper v k → (r : Row) × (row_of rows (number_at b w j) ≡ Some r) × (r.parent ≡ number_at b v k)
row_below rows b v w k j t (along {w = x} {k = i}) q o = (row (number_at b x i) (played_at b x i) true, row_along rows b x i t.known q o, refl)
row_below rows b v w k j t (fork_off {w = x} p) q o = (row (number_at b x p.taken) (played_at b (x ++ p ∷ []) 0) false, row_fork rows b x p t.known q, refl)

pub lineage_below : (rows : List (Option Row)) (b : PlainBranch) (v w : List Junction) (k j : ℕ) → Tree rows b → Below v k w j → IsPath b w j → Proper v k → lineage rows (number_at b w j) ≡ lineage rows (number_at b v k) ++ number_at b w j ∷ []
lineage_below rows b v w k j t l q o =
    let r = row_below rows b v w k j t l q o in
    lineage-step rows t.falls (number_at b w j) r.0 r.1 ∙ ap (λ z. lineage rows z ++ number_at b w j ∷ []) r.2

pub on_path : (b : PlainBranch) (w : List Junction) (k : ℕ) (t : List Junction) (h : ℕ) → IsOnWay w k t h → IsPath b t h → IsPath b w k
on_path b [] k [] h o q = omega (arith, o, q)
on_path b [] k (t ∷ ts) h o q = let a = q.0 in omega (arith, o, a)
on_path b (p ∷ ps) k [] h o q = absurd o
on_path b (p ∷ ps) k (t ∷ ts) h o q = subst (λ z. IsPath b (z ∷ ps) k) (sym o.0) (q.0, q.1, q.2, on_path (fork_at b.forks t.fork) ps k ts h o.1 q.3)

-- what a trip leaves behind, and what it enters
pub record Tail (rows : List (Option Row)) (b : PlainBranch) (t : List Junction) (h : ℕ) (v : List Junction) (j n far : ℕ) (C : List Junction → ℕ → Type 0) : Type 0 where
  pub rest : List ℕ
  pub splits : lineage rows far ≡ lineage rows (number_at b v j) ++ rest
  pub long : length rest ≡ n
  pub first : (rest ≡ []) ⊎ ((y : ℕ) × (ys : List ℕ) × (u : List Junction) × (i : ℕ) × (rest ≡ y ∷ ys) × IsPath b u i × Proper u i × (y ≡ number_at b u i) × C u i)

abbrev pub NotOn : List Junction → ℕ → List Junction → ℕ → Type 0
NotOn t h u i = IsOnWay u i t h → ⊥

pub climb_tail : (rows : List (Option Row)) (b : PlainBranch) (t : List Junction) (h : ℕ) (x : List Junction) (i : ℕ) (v : List Junction) (j n : ℕ) → Tree rows b → IsPath b x i → Proper x i → Climb t h x i v j n → IsPath b v j × Proper v j × Tail rows b t h v j n (number_at b x i) (NotOn t h)
climb_tail rows b t h x i v j n a q o stay = (q, o, record { rest = []; splits = sym (append-nil (lineage rows (number_at b x i))); long = refl; first = inl refl })
climb_tail rows b t h x i v j n a q o (up {w} {k} {n = m} u s c off l y) =
    let r = climb_tail rows b t h x i w k m a q o c in
    let g = path_below b v w j k l r.0 in
    let p = lineage_below rows b v w j k a l r.0 y in (
      g,
      y,
      record {
        rest = number_at b w k ∷ r.2.rest;
        splits = r.2.splits ∙ ap (λ z. z ++ r.2.rest) p ∙ append_assoc (lineage rows (number_at b v j)) (number_at b w k ∷ []) r.2.rest;
        long = ap suc r.2.long;
        first = inr (number_at b w k, r.2.rest, w, k, refl, r.0, r.1, refl, off);
      },
    )

pub descent_tail : (rows : List (Option Row)) (b : PlainBranch) (t : List Junction) (h : ℕ) (x : List Junction) (i : ℕ) (v : List Junction) (j n : ℕ) → Tree rows b → IsPath b t h → Proper x i → Descent t h x i v j n → Proper v j × Tail rows b t h x i n (number_at b v j) (λ u k. IsOnWay u k t h)
descent_tail rows b t h x i v j n a q o stand = (o, record { rest = []; splits = sym (append-nil (lineage rows (number_at b x i))); long = refl; first = inl refl })
descent_tail rows b t h x i v j n a q o (down {w} {k} {n = m} u s c l on y) =
    let r = descent_tail rows b t h x i w k m a q o c in
    let g = on_path b v j t h on q in
    let p = lineage_below rows b w v k j a l g r.0 in
    let e = length_push r.1.rest (number_at b v j) in
    let f = r.1.long in (
      y,
      record {
        rest = r.1.rest ++ number_at b v j ∷ [];
        splits = p ∙ ap (λ z. z ++ number_at b v j ∷ []) r.1.splits ∙ append_assoc (lineage rows (number_at b x i)) r.1.rest (number_at b v j ∷ []);
        long = omega (arith, e, f);
        first = ⊎_elim (λ z. inr (number_at b v j, [], v, j, ap (λ u. u ++ number_at b v j ∷ []) z, g, y, refl, on))
            (λ z. inr (z.0, z.1 ++ number_at b v j ∷ [], z.2, z.3, ap (λ u. u ++ number_at b v j ∷ []) z.4, z.5, z.6, z.7, z.8)) r.1.first;
      },
    )

eqb-own : (n : ℕ) → eqb n n ≡ true
eqb-own n = grind (arith, nat_tests)

eqb-apart : (n m : ℕ) → (n ≡ m → ⊥) → eqb n m ≡ false
eqb-apart n m h = grind (arith, nat_tests)

common-left : (l r s : List ℕ) → common (l ++ r) (l ++ s) ≡ l ++ common r s
common-left [] r s = refl
common-left (x ∷ xs) r s = ap (λ z. cond z (x ∷ common (xs ++ r) (xs ++ s)) []) (eqb-own x) ∙ ap (λ z. x ∷ z) (common-left xs r s)

common-apart : (x y : ℕ) (xs ys : List ℕ) → (x ≡ y → ⊥) → common (x ∷ xs) (y ∷ ys) ≡ []
common-apart x y xs ys h = ap (λ z. cond z (x ∷ common xs ys) []) (eqb-apart x y h)

common-empty : (r : List ℕ) → common r [] ≡ []
common-empty [] = refl
common-empty (x ∷ xs) = refl

-- the distance
pub trip_distance : (rows : List (Option Row)) (b : PlainBranch) (x t : List Junction) (i h n : ℕ) → Tree rows b → IsPath b x i → Proper x i → IsPath b t h → Proper t h → Trip x i t h n → n ≡ distance rows (number_at b x i) (number_at b t h)
trip_distance rows b x t i h n a q o g y r =
    let c = climb_tail rows b t h x i r.meet r.place r.ups a q o r.climb in
    let d = descent_tail rows b t h r.meet r.place t h r.downs a g c.1 r.descent in
    let l = lineage rows (number_at b r.meet r.place) in
    let e : common c.2.rest d.1.rest ≡ [] =
    ⊎_elim (λ z. ap (λ u. common u d.1.rest) z)
    (λ z. ⊎_elim (λ m. ap (λ u. common c.2.rest u) m ∙ common-empty c.2.rest)
    (λ m. ap (λ u. common u d.1.rest) z.4 ∙ ap (λ u. common (z.0 ∷ z.1) u) m.4 ∙ common-apart z.0 m.0 z.1 m.1 (λ k.
    let s = same_spot rows b z.2 m.2 z.3 m.3 a z.5 m.5 z.6 m.6 (sym z.7 ∙ k ∙ m.7) in
    z.8 (subst (λ u. IsOnWay u z.3 t h) (sym s.0) (subst (λ u. IsOnWay m.2 u t h) (sym s.1) m.8)))) d.1.first) c.2.first in
    let f : common (lineage rows (number_at b x i)) (lineage rows (number_at b t h)) ≡ l =
    ap (λ u. common u (lineage rows (number_at b t h))) c.2.splits ∙ ap (λ u. common (l ++ c.2.rest) u) d.1.splits ∙ common-left l c.2.rest d.1.rest ∙ ap (λ u. l ++ u) e ∙ append-nil l in
    let u = ap (λ z. length z) c.2.splits ∙ length-append l c.2.rest in
    let v = ap (λ z. length z) d.1.splits ∙ length-append l d.1.rest in
    let w = ap (λ z. length z) f in
    let p = c.2.long in
    let s = d.1.long in
    let k = r.steps in
    omega (arith, u, v, w, p, s, k)

-- how many steps there can be
pub climb_depth : (t : List Junction) (h : ℕ) (x : List Junction) (i : ℕ) (v : List Junction) (j n : ℕ) → Climb t h x i v j n → depth x i ≡ depth v j + n
climb_depth t h x i v j n stay = omega arith
climb_depth t h x i v j n (up {w} {k} {n = m} u s c off l y) = let r = climb_depth t h x i w k m c in let d = depth_below v w j k l in omega (arith, r, d)

pub descent_depth : (t : List Junction) (h : ℕ) (x : List Junction) (i : ℕ) (v : List Junction) (j n : ℕ) → Descent t h x i v j n → depth v j ≡ depth x i + n
descent_depth t h x i v j n stand = omega arith
descent_depth t h x i v j n (down {w} {k} {n = m} u s c l on y) = let r = descent_depth t h x i w k m c in let d = depth_below w v k j l in omega (arith, r, d)

depth_one : (rows : List (Option Row)) (b : PlainBranch) (n : ℕ) (v w : List Junction) (k j : ℕ) → Tree rows b → ((u : List Junction) (i : ℕ) → number_at b u i < n → IsPath b u i → Proper u i → depth u i ≤ number_at b u i) → number_at b w j < suc n → Below v k w j → IsPath b w j → Proper v k → depth w j ≤ number_at b w j
depth_one rows b n v w k j t ih l m g o =
    let r = row_below rows b v w k j t m g o in
    let f = t.falls (number_at b w j) r.0 r.1 in
    let e = r.2 in
    let d = depth_below v w k j m in
    let i = ih v k (omega (arith, f, e, l)) (path_below b v w k j m g) o in
    omega (arith, d, i, f, e)

depth_step : (rows : List (Option Row)) (b : PlainBranch) (n : ℕ) (w : List Junction) (j : ℕ) → Tree rows b → ((u : List Junction) (i : ℕ) → number_at b u i < n → IsPath b u i → Proper u i → depth u i ≤ number_at b u i) → number_at b w j < suc n → IsPath b w j → Along w j ⊎ Off w j → depth w j ≤ number_at b w j
depth_step rows b n w j t ih l g (inl a) = depth_one rows b n w w a.0 j t ih l (subst (λ z. Below w a.0 w z) (sym a.1) along) g a.2
depth_step rows b n w j t ih l g (inr a) =
    depth_one rows b n a.0 w a.1.taken j t ih l (subst (λ z. Below a.0 a.1.taken z j) (sym a.2) (subst (λ z. Below a.0 a.1.taken (a.0 ++ a.1 ∷ []) z) (sym a.3) (fork_off a.1))) g a.4

depth_fuel : (rows : List (Option Row)) (b : PlainBranch) → Tree rows b → (n : ℕ) (w : List Junction) (j : ℕ) → number_at b w j < n → IsPath b w j → Proper w j → depth w j ≤ number_at b w j
depth_fuel rows b t zero w j l g o = absurd (omega (arith, l))
depth_fuel rows b t (suc n) w zero l g o = let e = ap (λ z. depth z 0) (Proper-zero w o) in omega (arith, e)
depth_fuel rows b t (suc n) w (suc j) l g o = depth_step rows b n w (suc j) t (depth_fuel rows b t n) l g (step_of w (suc j) o (omega arith))

-- no more steps than the number
pub depth_number : (rows : List (Option Row)) (b : PlainBranch) (w : List Junction) (j : ℕ) → Tree rows b → IsPath b w j → Proper w j → depth w j ≤ number_at b w j
depth_number rows b w j t g o = depth_fuel rows b t (suc (number_at b w j)) w j (omega arith) g o

-- one step more
pub climb_more : (t : List Junction) (h : ℕ) (x : List Junction) (i : ℕ) (w y : List Junction) (k n m : ℕ) (v : List Junction) (j : ℕ) (o : Bool) → y ≡ w → m ≡ suc n → Climb t h x i w k n → (IsOnWay y k t h → o ≡ true) → o ≡ false → Below v j w k → Proper v j → Climb t h x i v j m
climb_more t h x i w y k n m v j o ey em c f e l p = subst (λ z. Climb t h x i v j z) (sym em) (up v j c (λ a. let r = f (subst (λ z. IsOnWay z k t h) (sym ey) a) in cc) l p)

pub trip_end : (t : List Junction) (h : ℕ) (x : List Junction) (i : ℕ) (v : List Junction) (j : ℕ) (w : List Junction) (k m n s : ℕ) → Climb t h x i v j m → IsOnWay v j t h → Descent t h v j w k n → w ≡ t → k ≡ h → s ≡ m + n → Trip x i t h s
trip_end t h x i v j w k m n s c o d ew ek e = record {
  meet = v;
  place = j;
  ups = m;
  downs = n;
  climb = c;
  descent = subst (λ z. Descent t h v j z h n) ew (subst (λ z. Descent t h v j w z n) ek d);
  on = o;
  steps = e;
}

pub path_le : (rows : List (Option Row)) (b : PlainBranch) (w : List Junction) (j : ℕ) → Tree rows b → IsPath b w j → Proper w j → number_at b w j ≤ length rows
path_le rows b w zero t g o = let e = ap (λ z. number_at b z 0) (Proper-zero w o) in omega (arith, e)
path_le rows b w (suc j) t g o = row_of-within rows (number_at b w (suc j)) _ (path_row rows b w j g t.known)

pub depth_few : (root t : State) (b : PlainBranch) (w v : List Junction) (k j issued n : ℕ) → Kept root t b w k issued → FoundAt n b v j → depth w k + depth v j < 4294967296
depth_few root t b w v k j issued n h p =
    let a = kept_tree root t b w k issued h in
    let l = length_rows issued b in
    let f = h.few in
    let d = depth_number (rows_of issued b) b w k a (kept_path root t b w k issued h) h.proper in
    let e = depth_number (rows_of issued b) b v j a p.path p.proper in
    let u = path_le (rows_of issued b) b w k a (kept_path root t b w k issued h) h.proper in
    let v' = path_le (rows_of issued b) b v j a p.path p.proper in
    omega (arith, l, f, d, e, u, v')

pub go_distance : (root t : State) (b : PlainBranch) (w v x : List Junction) (k j issued n s : ℕ) → Kept root t b w k issued → FoundAt n b v j → x ≡ v → Trip w k x j s → s ≡ distance (rows_of issued b) (number_at b w k) n
go_distance root t b w v x k j issued n s h p e r =
    let a = kept_tree root t b w k issued h in
    trip_distance (rows_of issued b) b w v k j s a (kept_path root t b w k issued h) h.proper p.path p.proper (subst (λ z. Trip w k z j s) e r)
    ∙ ap (λ z. distance (rows_of issued b) (number_at b w k) z) p.numbered

-- the parent of a node
pub placed_inside : (n : ℕ) (b : PlainBranch) (w : List Junction) (j : ℕ) → (n ≡ 0 → ⊥) → FoundAt n b w j → 0 < j
placed_inside n b w zero h p = absurd (h (sym p.numbered ∙ ap (λ z. number_at b z 0) (Proper-zero w p.proper)))
placed_inside n b w (suc j) h p = omega arith

pub placed_parent : (rows : List (Option Row)) (n m : ℕ) (b : PlainBranch) (w v x : List Junction) (j k : ℕ) → Tree rows b → FoundAt n b w j → Below v k w j → Proper v k → x ≡ v → m ≡ number_at b x k → Some m ≡ parent_of rows n
placed_parent rows n m b w v x j k t p l o ex e =
    let r = row_below rows b v w k j t l p.path o in
    ap Some (e ∙ ap (λ z. number_at b z k) ex ∙ sym r.2) ∙ sym (ap (λ z. option_parent z) (ap (λ z. row_of rows z) (sym p.numbered) ∙ r.1))

-- the parent that is answered beside a row is the row's
pub row_parent_is : (rows : List (Option Row)) (n m : ℕ) (r : Row) → row_of rows n ≡ Some r → Some m ≡ parent_of rows n → m ≡ r.parent
row_parent_is rows n m r e p = let i : Some m ≡ Some r.parent = p ∙ ap (λ z. option_parent z) e in cc

pub missing_row : (issued : ℕ) (b : PlainBranch) (n : ℕ) → IsMissing n b → row_of (rows_of issued b) n ≡ None
missing_row issued b n h =
    ⊎_elim (λ (z : row_of (rows_of issued b) n ≡ None). z)
    (λ (z : (r : Row) × row_of (rows_of issued b) n ≡ Some r). let f = row_found issued b n z.0 z.1 in let m = h 0 true in cc) (option_case (row_of (rows_of issued b) n))

pub missing_parent : (issued : ℕ) (b : PlainBranch) (n : ℕ) → IsMissing n b → None ≡ parent_of (rows_of issued b) n
missing_parent issued b n h = sym (ap (λ z. option_parent z) (missing_row issued b n h))

-- how many nodes stand above a position, by rows
above_one : (rows : List (Option Row)) (b : PlainBranch) (n : ℕ) (v w : List Junction) (k j : ℕ) → Tree rows b → ((u : List Junction) (i : ℕ) → number_at b u i < n → IsPath b u i → Proper u i → length (lineage rows (number_at b u i)) ≡ depth u i) → number_at b w j < suc n → Below v k w j → IsPath b w j → Proper v k → length (lineage rows (number_at b w j)) ≡ depth w j
above_one rows b n v w k j t ih l m g o =
    let r = row_below rows b v w k j t m g o in
    let f = t.falls (number_at b w j) r.0 r.1 in
    let e = r.2 in
    let i = ih v k (omega (arith, f, e, l)) (path_below b v w k j m g) o in
    let a = length-append (lineage rows (number_at b v k)) (number_at b w j ∷ []) in
    ap (λ z. length z) (lineage_below rows b v w k j t m g o) ∙ (omega (arith, a, i)) ∙ sym (depth_below v w k j m)

above_step : (rows : List (Option Row)) (b : PlainBranch) (n : ℕ) (w : List Junction) (j : ℕ) → Tree rows b → ((u : List Junction) (i : ℕ) → number_at b u i < n → IsPath b u i → Proper u i → length (lineage rows (number_at b u i)) ≡ depth u i) → number_at b w j < suc n → IsPath b w j → Along w j ⊎ Off w j → length (lineage rows (number_at b w j)) ≡ depth w j
above_step rows b n w j t ih l g (inl a) = above_one rows b n w w a.0 j t ih l (subst (λ z. Below w a.0 w z) (sym a.1) along) g a.2
above_step rows b n w j t ih l g (inr a) =
    above_one rows b n a.0 w a.1.taken j t ih l (subst (λ z. Below a.0 a.1.taken z j) (sym a.2) (subst (λ z. Below a.0 a.1.taken (a.0 ++ a.1 ∷ []) z) (sym a.3) (fork_off a.1))) g a.4

lineage-root : (rows : List (Option Row)) → lineage rows 0 ≡ []
unfolding lineage
lineage-root rows = refl

above_fuel : (rows : List (Option Row)) (b : PlainBranch) → Tree rows b → (n : ℕ) (w : List Junction) (j : ℕ) → number_at b w j < n → IsPath b w j → Proper w j → length (lineage rows (number_at b w j)) ≡ depth w j
above_fuel rows b t zero w j l g o = absurd (omega (arith, l))
above_fuel rows b t (suc n) w zero l g o =
    let e = Proper-zero w o in
    ap (λ z. length (lineage rows (number_at b z 0))) e ∙ ap (λ z. length z) (lineage-root rows) ∙ sym (ap (λ z. depth z 0) e)
above_fuel rows b t (suc n) w (suc j) l g o = above_step rows b n w (suc j) t (above_fuel rows b t n) l g (step_of w (suc j) o (omega arith))

pub lineage_depth : (rows : List (Option Row)) (b : PlainBranch) (w : List Junction) (j : ℕ) → Tree rows b → IsPath b w j → Proper w j → length (lineage rows (number_at b w j)) ≡ depth w j
lineage_depth rows b w j t g o = above_fuel rows b t (suc (number_at b w j)) w j (omega arith) g o

pub depth_within : (root t : State) (b : PlainBranch) (w : List Junction) (k issued : ℕ) → Kept root t b w k issued → depth w k < 4294967296
depth_within root t b w k issued h =
    let a = kept_tree root t b w k issued h in
    let l = length_rows issued b in
    let f = h.few in
    let d = depth_number (rows_of issued b) b w k a (kept_path root t b w k issued h) h.proper in
    let u = path_le (rows_of issued b) b w k a (kept_path root t b w k issued h) h.proper in
    omega (arith, l, f, d, u)

-- counted along the way
pub depth_sum : (w : List Junction) (k : ℕ) → k + sum_by (λ p. p.taken) w ≡ depth w k
depth_sum [] k = omega arith
depth_sum (p ∷ ps) k = let r = depth_sum ps k in let e = sum_by-cons (λ p. p.taken) p ps in omega (arith, r, e)

pub depth_part : (w : List Junction) (i k : ℕ) (d : Junction) → i < length w → k + sum_by (λ p. p.taken) (take i w) + (slice_index_or w i d).taken ≤ depth w k
depth_part [] i k d l = absurd (omega (arith, l))
depth_part (p ∷ ps) zero k d l = let r = depth_sum ps k in omega (arith, r)
depth_part (p ∷ ps) (suc i) k d l =
    let r = depth_part ps i k d (omega (arith, l)) in
    let e = sum_by-cons (λ q. q.taken) p (take i ps) in
    omega (arith, r, e)

pub depth_fits : (w x : List Junction) (i k n : ℕ) (d : Junction) → x ≡ w → i < length x → n ≡ k + sum_by (λ p. p.taken) (take i x) → depth w k < 4294967296 → n + (slice_index_or x i d).taken < 18446744073709551616
depth_fits w x i k n d ex l e h = let r = depth_part x i k d l in let u = ap (λ z. depth z k) ex in omega (arith, r, u, e, h)

take_over : (xs : List Junction) (i : ℕ) → length xs ≤ i → take i xs ≡ xs
take_over [] zero l = refl
take_over [] (suc i) l = refl
take_over (x ∷ xs) zero l = absurd (omega (arith, l))
take_over (x ∷ xs) (suc i) l = ap (λ z. x ∷ z) (take_over xs i (omega (arith, l)))

pub depth_counted : (w x : List Junction) (i k n : ℕ) → x ≡ w → length x ≤ i → n ≡ k + sum_by (λ p. p.taken) (take i x) → n ≡ depth w k
depth_counted w x i k n ex l e = e ∙ ap (λ z. k + sum_by (λ p. p.taken) z) (take_over x i l ∙ ex) ∙ depth_sum w k
