-- The index leads to each node that stands: as nodes are noted, and as the tree changes.
use Rattle.std.proofs.Common.{◌≡◌, ℕ, suc, zero, ◌-◌, ◌<◌, ◌≤◌, Bool, true, false, is_some, eqb, List, [], ◌∷◌, ◌++◌, length, take, reverse, get_or, slice_get, refl, ap, sym, ◌∙◌, subst, arith, Option, Some, None, ◌⊎◌, inl, inr, ⊎_elim}
use Rattle.std.proofs.Math.ListN.{get_or-append}
use Rattle.std.proofs.Math.Seq.{get_or-append_seam}
use Rattle.std.proofs.lemmas.List.{append-nil, length-append, length-reverse, length_push, reverse-append, take-append-le, take_all}
use Rattle.std.proofs.lemmas.Bool.Decides.{nat_tests}
use Rattle.rev_tree.specs.Steps.{State, Step}
use Rattle.rev_tree.specs.Tree.{PlainBranch, bare}
use Rattle.rev_tree.specs.Rows.{Row, rows_of, number_at, find_in}
use Rattle.rev_tree.specs.Positions.{Kept, Grown, Same, Proper}
use Rattle.rev_tree.specs.Paths.{IsPath}
use Rattle.rev_tree.specs.Finds.{Fitted, IsMissing, IsElsewhere}
use Rattle.rev_tree.specs.Index.{PlainIndex, branch_of, leaving_of, then_up, ups, way_to, next_branch, next_leaving, noted, forgotten}
use Rattle.rev_tree.specs.Leading.{LeadsTo, IsClosed, IsIndex, Notes, noted_along, noted_off}
use Rattle.rev_tree.specs.Forks.{way_into}
use Rattle.rev_tree.proofs.Growth.{length_rows}
use Rattle.rev_tree.proofs.Positions.{Proper-zero, number_at-same}
use Rattle.rev_tree.proofs.Fits.{path_proper, fitted_way}
use Rattle.rev_tree.proofs.Held.{option_case, path_row, row_found, missing_anywhere}
use Rattle.rev_tree.proofs.Spots.{spot, same_spot, path_way}
use Rattle.rev_tree.proofs.Paths.{path_from}
use Rattle.rev_tree.proofs.Machine.{kept_tree, kept_path}
use Rattle.rev_tree.proofs.Trips.{path_le}
use Rattle.rev_tree.proofs.Subs.{Sub, path_sub, number_at-sub}
use Rattle.rev_tree.specs.Ways.{at_end}
use Rattle.rev_tree.specs.Prunes.{cropped}
use Rattle.rev_tree.proofs.Crops.{sub_crop}
use Rattle.rev_tree.proofs.Stays.{same_or}
use Rattle.rev_tree.specs.declared.junction.Junction.{Junction}
use Rattle.rev_tree.specs.declared.index.Leaving.{Leaving}

-- lists with more behind them
get_front : {X : Type 0} (xs ys : List X) (k : ℕ) → k < length xs → slice_get (xs ++ ys) k ≡ slice_get xs k
get_front [] ys k l = absurd (omega (arith, l))
get_front (x ∷ xs) ys zero l = refl
get_front (x ∷ xs) ys (suc k) l = get_front xs ys k (omega (arith, l))

get_seam : {X : Type 0} (xs : List X) (y : X) → slice_get (xs ++ y ∷ []) (length xs) ≡ Some y
get_seam [] y = refl
get_seam (x ∷ xs) y = get_seam xs y

get_pushed : {X : Type 0} (xs : List X) (y z : X) (k : ℕ) → slice_get (xs ++ y ∷ []) k ≡ Some z → (slice_get xs k ≡ Some z) ⊎ (z ≡ y)
get_pushed [] y z zero h = inr cc
get_pushed [] y z (suc k) h = inl h
get_pushed (x ∷ xs) y z zero h = inl h
get_pushed (x ∷ xs) y z (suc k) h = get_pushed xs y z k h

read_pushed : (xs : List ℕ) (y k : ℕ) → (get_or (xs ++ y ∷ []) k 0 ≡ get_or xs k 0) ⊎ (get_or (xs ++ y ∷ []) k 0 ≡ y)
read_pushed [] y zero = inr refl
read_pushed [] y (suc k) = inl refl
read_pushed (x ∷ xs) y zero = inl refl
read_pushed (x ∷ xs) y (suc k) = read_pushed xs y k

cut_last : {X : Type 0} (xs : List X) (y : X) → take (length (xs ++ y ∷ []) - 1) (xs ++ y ∷ []) ≡ xs
cut_last xs y =
    let n = length_push xs y in
    let m : length (xs ++ y ∷ []) - 1 ≡ length xs = omega (arith, n) in
    ap (λ z. take z (xs ++ y ∷ [])) m ∙ take-append-le (length xs) xs (y ∷ []) (omega arith) ∙ take_all (length xs) xs (omega arith)

-- the last node taken out again
pub forgotten_noted : (i : PlainIndex) (n : ℕ) (f : Option Junction) → forgotten (noted i n f) (is_some f) ≡ i
forgotten_noted i n None =
    ap (λ z. let y : PlainIndex = record { branches = z; leavings = i.leavings ++ [] } in y) (cut_last i.branches (branch_of i n))
    ∙ ap (λ z. let y : PlainIndex = record { branches = i.branches; leavings = z } in y) (append-nil i.leavings)
forgotten_noted i n (Some p) =
    let l : Leaving = record { branch = branch_of i n; junction = p } in
    ap (λ z. let y : PlainIndex = record { branches = z; leavings = take (length (i.leavings ++ l ∷ []) - 1) (i.leavings ++ l ∷ []) } in y) (cut_last i.branches (suc (length i.leavings)))
    ∙ ap (λ z. let y : PlainIndex = record { branches = i.branches; leavings = z } in y) (cut_last i.leavings l)

-- what is noted leaves the ways of older nodes as they are
leaving_older : (i : PlainIndex) (n : ℕ) (f : Option Junction) (b : ℕ) → b ≤ length i.leavings → leaving_of (noted i n f) b ≡ leaving_of i b
leaving_older i n f zero l = refl
leaving_older i n f (suc b) l = get_front i.leavings (next_leaving i n f) b (omega (arith, l))

ups_each : (o : Option Leaving) (f g : ℕ → List Junction) → ((x : Leaving) → o ≡ Some x → f x.branch ≡ g x.branch) → then_up o f ≡ then_up o g
ups_each None f g h = refl
ups_each (Some x) f g h = ap (λ z. x.junction ∷ z) (h x refl)

above_it : (i : PlainIndex) (b : ℕ) (x : Leaving) → IsClosed i → leaving_of i b ≡ Some x → x.branch ≤ length i.leavings
above_it i zero x c e = cc
above_it i (suc b) x c e = c.left b x e

ups_older : (k : ℕ) (i : PlainIndex) (n : ℕ) (f : Option Junction) (b : ℕ) → IsClosed i → b ≤ length i.leavings → ups k (noted i n f) b ≡ ups k i b
ups_older zero i n f b c l = refl
ups_older (suc k) i n f b c l =
    ap (λ z. then_up z (ups k (noted i n f))) (leaving_older i n f b l)
    ∙ ups_each (leaving_of i b) (ups k (noted i n f)) (ups k i) (λ x e. ups_older k i n f x.branch c (above_it i b x c e))

branch_older : (i : PlainIndex) (n : ℕ) (f : Option Junction) (m : ℕ) → m ≤ length i.branches → branch_of (noted i n f) m ≡ branch_of i m
branch_older i n f zero l = refl
branch_older i n f (suc m) l = get_or-append i.branches (next_branch i n f ∷ []) 0 m (omega (arith, l))

branch_next : (i : PlainIndex) (n : ℕ) (f : Option Junction) → branch_of (noted i n f) (suc (length i.branches)) ≡ next_branch i n f
branch_next i n f = get_or-append_seam i.branches (next_branch i n f) [] 0

way_root : (i : PlainIndex) → way_to i 0 ≡ []
unfolding way_to
way_root i = refl

way_older : (i : PlainIndex) (n : ℕ) (f : Option Junction) (m : ℕ) → IsClosed i → m ≤ length i.branches → way_to (noted i n f) m ≡ way_to i m
unfolding way_to
way_older i n f m c l = ap (λ z. reverse z) (ap (λ z. ups 64 (noted i n f) z) (branch_older i n f m l) ∙ ups_older 64 i n f (branch_of i m) c (c.named m))

-- the way of the node that is noted, along the run
way_along : (i : PlainIndex) (n : ℕ) → IsClosed i → way_to (noted i n None) (suc (length i.branches)) ≡ way_to i n
unfolding way_to
way_along i n c = ap (λ z. reverse z) (ap (λ z. ups 64 (noted i n None) z) (branch_next i n None) ∙ ups_older 64 i n None (branch_of i n) c (c.named n))

-- the same off it
short_none : (o : Option Leaving) (f : ℕ → List Junction) → length (then_up o f) ≤ 0 → then_up o f ≡ []
short_none None f l = refl
short_none (Some x) f l = absurd (omega (arith, l))

short_more : (k : ℕ) (o : Option Leaving) (f g : ℕ → List Junction) → ((b : ℕ) → length (f b) ≤ k → f b ≡ g b) → length (then_up o f) ≤ suc k → then_up o f ≡ then_up o g
short_more k None f g h l = refl
short_more k (Some x) f g h l = ap (λ z. x.junction ∷ z) (h x.branch (omega (arith, l)))

ups_short : (k : ℕ) (i : PlainIndex) (b : ℕ) → length (ups (suc k) i b) ≤ k → ups (suc k) i b ≡ ups k i b
ups_short zero i b l = short_none (leaving_of i b) (ups 0 i) l
ups_short (suc k) i b l = short_more k (leaving_of i b) (ups (suc k) i) (ups k i) (λ c m. ups_short k i c m) l

off_ups : (k : ℕ) (i : PlainIndex) (n : ℕ) (p : Junction) → IsClosed i → length (ups (suc k) i (branch_of i n)) ≤ k → reverse (ups (suc k) (noted i n (Some p)) (suc (length i.leavings))) ≡ reverse (ups (suc k) i (branch_of i n)) ++ p ∷ []
off_ups k i n p c l =
    let j = noted i n (Some p) in
    let b = branch_of i n in
    ap (λ z. reverse (then_up z (ups k j))) (get_seam i.leavings (record { branch = b; junction = p }))
    ∙ ap (λ z. reverse (p ∷ z)) (ups_older k i n (Some p) b c (c.named n) ∙ sym (ups_short k i b l))
    ∙ reverse-append (p ∷ []) (ups (suc k) i b)

way_off : (i : PlainIndex) (n : ℕ) (p : Junction) → IsClosed i → length (way_to i n) < 64 → way_to (noted i n (Some p)) (suc (length i.branches)) ≡ way_to i n ++ p ∷ []
unfolding way_to
way_off i n p c l =
    let m = length-reverse (ups 64 i (branch_of i n)) in
    ap (λ z. reverse (ups 64 (noted i n (Some p)) z)) (branch_next i n (Some p)) ∙ off_ups 63 i n p c (omega (arith, m, l))

-- the branches that the grown index names
next_within : (i : PlainIndex) (n : ℕ) (f : Option Junction) → IsClosed i → (next_branch i n f ≤ length (noted i n f).leavings) × (length i.leavings ≤ length (noted i n f).leavings)
next_within i n None c = let a = c.named n in let e = length-append i.leavings [] in (omega (arith, a, e), omega (arith, e))
next_within i n (Some p) c = let e = length_push i.leavings (record { branch = branch_of i n; junction = p }) in (omega (arith, e), omega (arith, e))

closed_named : (i : PlainIndex) (n : ℕ) (f : Option Junction) → IsClosed i → (m : ℕ) → branch_of (noted i n f) m ≤ length (noted i n f).leavings
closed_named i n f c zero = omega arith
closed_named i n f c (suc m) =
    let w = next_within i n f c in
    let x = w.0 in
    let y = w.1 in
    let a = c.named (suc m) in
    ⊎_elim (λ e. omega (arith, e, a, y)) (λ e. omega (arith, e, x)) (read_pushed i.branches (next_branch i n f) m)

closed_left : (i : PlainIndex) (n : ℕ) (f : Option Junction) → IsClosed i → (k : ℕ) (l : Leaving) → slice_get (noted i n f).leavings k ≡ Some l → l.branch ≤ length (noted i n f).leavings
closed_left i n None c k l e = subst (λ z. l.branch ≤ length z) (sym (append-nil i.leavings)) (c.left k l (ap (λ z. slice_get z k) (sym (append-nil i.leavings)) ∙ e))
closed_left i n (Some p) c k l e =
    let x : Leaving = record { branch = branch_of i n; junction = p } in
    let s = length_push i.leavings x in
    let a = c.named n in
    ⊎_elim (λ h. let d = c.left k l h in omega (arith, d, s)) (λ h. let d = ap (λ (z : Leaving). z.branch) h in omega (arith, d, a, s)) (get_pushed i.leavings x l k e)

closed_noted : (i : PlainIndex) (n : ℕ) (f : Option Junction) → IsClosed i → IsClosed (noted i n f)
closed_noted i n f c = record { named = closed_named i n f c; left = closed_left i n f c }

-- what the code notes, and where it goes
pub noted_code : (i j : PlainIndex) (n m : ℕ) (w v : List Junction) (f : Option Junction) → j ≡ noted i m f → m ≡ n → v ≡ way_into w f → Notes i n w j v
noted_code i j n m w v None ej em ev = subst (λ a. Notes i n w a v) (sym (ej ∙ ap (λ a. noted i a None) em)) (subst (λ a. Notes i n w (noted i n None) a) (sym ev) noted_along)
noted_code i j n m w v (Some p) ej em ev = subst (λ a. Notes i n w a v) (sym (ej ∙ ap (λ a. noted i a (Some p)) em)) (subst (λ a. Notes i n w (noted i n (Some p)) a) (sym ev) (noted_off p))

pub record Noting (i : PlainIndex) (n issued : ℕ) (j : PlainIndex) (v : List Junction) : Type 0 where
  pub fork : Option Junction
  pub is : j ≡ noted i n fork
  pub leads : way_to j (suc issued) ≡ v

noting : (i j : PlainIndex) (n issued : ℕ) (w v : List Junction) → IsClosed i → length i.branches ≡ issued → way_to i n ≡ w → length v ≤ 64 → Notes i n w j v → Noting i n issued j v
noting i j n issued w v c e ew l noted_along = record { fork = None; is = refl; leads = ap (λ z. way_to (noted i n None) (suc z)) (sym e) ∙ way_along i n c ∙ ew }
noting i j n issued w v c e ew l (noted_off p) =
    let a = ap (λ z. length z) ew in
    let s = length_push w p in
    record { fork = Some p; is = refl; leads = ap (λ z. way_to (noted i n (Some p)) (suc z)) (sym e) ∙ way_off i n p c (omega (arith, a, s, l)) ∙ ap (λ z. z ++ p ∷ []) ew }

-- a session that was opened
empty_paths : (b : PlainBranch) (w : List Junction) (k : ℕ) → b ≡ record { from = 0; run = []; forks = bare } → IsPath b w k → (w ≡ []) × (k ≡ 0)
empty_paths b [] k e q = let n = ap (λ (z : PlainBranch). length z.run) e in (refl, omega (arith, n, q))
empty_paths b (p ∷ ps) k e q = let q1 = (subst (λ z. IsPath z (p ∷ ps) k) e q).1 in absurd (omega (arith, q1))

pub index_opened : (i : PlainIndex) (b : PlainBranch) → i ≡ record { branches = []; leavings = [] } → b ≡ record { from = 0; run = []; forks = bare } → IsIndex i b 0
unfolding LeadsTo
index_opened i b ei eb = record {
  long = ap (λ z. length z.branches) ei;
  closed = subst (λ z. IsClosed z) (sym ei) (record { named = λ n. no_branch_named n; left = λ k l e. cc });
  leads = λ w k q o.
      let r = empty_paths b w k eb q in
      ap (λ z. way_to i z) (ap (λ z. number_at b z k) r.0 ∙ ap (λ z. number_at b [] z) r.1) ∙ way_root i ∙ sym r.0;
}
  where
    no_branch_named : (n : ℕ) → branch_of (record { branches = []; leavings = [] }) n ≤ 0
    no_branch_named zero = omega arith
    no_branch_named (suc n) = omega arith

-- a session that went elsewhere
pub index_moved : (i j : PlainIndex) (b c : PlainBranch) (issued : ℕ) → IsIndex i b issued → Same b c → j ≡ i → IsIndex j c issued
unfolding LeadsTo
index_moved i j b c issued h s e = subst (λ z. IsIndex z c issued) (sym e) (record {
  long = h.long;
  closed = h.closed;
  leads = λ w k q o. ap (λ z. way_to i z) (number_at-same b c w k s) ∙ h.leads w k (path_from b c w k s q) o;
})

-- a session that was pruned
index_pruned : (i : PlainIndex) (b c : PlainBranch) (issued : ℕ) → IsIndex i b issued → Sub b c → IsIndex i c issued
unfolding LeadsTo
index_pruned i b c issued h s = record {
  long = h.long;
  closed = h.closed;
  leads = λ w k q o. ap (λ z. way_to i z) (number_at-sub b c w k s q o) ∙ h.leads w k (path_sub b c w k s q o) o;
}

pub index_cut : (i : PlainIndex) (b c : PlainBranch) (v y : List Junction) (at issued : ℕ) → IsIndex i b issued → Fitted b.forks b.run 64 0 0 → IsPath b v at → 0 < at → y ≡ v → c ≡ at_end (cropped (at - 1)) b y → IsIndex i c issued
index_cut i b c v y at issued h f q l ey ec =
    let e : at ≡ suc (at - 1) = omega (arith, l) in
    subst (λ z. IsIndex i z issued) (sym (ec ∙ ap (λ z. at_end (cropped (at - 1)) b z) ey)) (index_pruned i b (at_end (cropped (at - 1)) b v) issued h (sub_crop b v (at - 1) 64 0 0 (subst (λ z. IsPath b v z) e q) f))

-- a session that grew
eqb-apart : (n m : ℕ) → (n ≡ m → ⊥) → eqb n m ≡ false
eqb-apart n m h = grind (arith, nat_tests)

led_older : (root t u again : State) (b c : PlainBranch) (w v : List Junction) (k h issued : ℕ) (i j : PlainIndex) (d : Step) (g : Bool) → Kept root t b w k issued → Kept again u c v h (suc issued) → Grown root b w k u c v h (suc issued) d g → IsIndex i b issued → Noting i (number_at b w k) issued j v →
    (x : List Junction) (y : ℕ) → IsPath c x (suc y) → Proper x (suc y) → (number_at c x (suc y) ≡ suc issued → ⊥) → way_to j (number_at c x (suc y)) ≡ x
unfolding LeadsTo
led_older root t u again b c w v k h issued i j d g e z m n o x y q r a =
    let number = number_at c x (suc y) in
    let there = row_found (suc issued) c number _ (path_row (rows_of (suc issued) c) c x y q z.known) in
    let s = spot number 0 true b _ 64 0 0 e.fitted (sym (m.others number (eqb-apart number (suc issued) a)) ∙ there) in
    let p = path_proper b s.way s.at e.fitted s.path s.inside in
    let f = m.stays s.way s.at s.path in
    let l = path_le (rows_of issued b) b s.way s.at (kept_tree _ _ _ _ _ _ e) s.path p in
    let r0 = length_rows issued b in
    let r1 = n.long in
    let r2 = s.numbered 0 in
    let same = same_spot (rows_of (suc issued) c) c x s.way (suc y) s.at (kept_tree _ _ _ _ _ _ z) q f.0 r p (sym (f.1 ∙ s.numbered 0)) in
    ap (λ z. way_to z number) o.is
    ∙ way_older i (number_at b w k) o.fork number n.closed (omega (arith, l, r0, r1, r2))
    ∙ ap (λ z. way_to i z) (sym (s.numbered 0))
    ∙ n.leads s.way s.at s.path p
    ∙ sym same.0

led_next : (again u : State) (c : PlainBranch) (v x : List Junction) (h y issued : ℕ) (j : PlainIndex) → Kept again u c v h (suc issued) → number_at c v h ≡ suc issued → way_to j (suc issued) ≡ v → IsPath c x y → Proper x y → number_at c x y ≡ suc issued → way_to j (number_at c x y) ≡ x
led_next again u c v x h y issued j z e l q r a =
    let same = same_spot (rows_of (suc issued) c) c x v y h (kept_tree _ _ _ _ _ _ z) q (kept_path _ _ _ _ _ _ z) r z.proper (a ∙ sym e) in
    ap (λ z. way_to j z) a ∙ l ∙ sym same.0

led : (root t u again : State) (b c : PlainBranch) (w v : List Junction) (k h issued : ℕ) (i j : PlainIndex) (d : Step) (g : Bool) → Kept root t b w k issued → Kept again u c v h (suc issued) → Grown root b w k u c v h (suc issued) d g → IsIndex i b issued → Noting i (number_at b w k) issued j v →
    (x : List Junction) (y : ℕ) → IsPath c x y → Proper x y → way_to j (number_at c x y) ≡ x
led root t u again b c w v k h issued i j d g e z m n o x zero q r =
    let s = Proper-zero x r in
    ap (λ z. way_to j (number_at c z 0)) s ∙ way_root j ∙ sym s
led root t u again b c w v k h issued i j d g e z m n o x (suc y) q r =
    ⊎_elim (λ a. led_next again u c v x h (suc y) issued j z m.numbered o.leads q r a) (λ a. led_older root t u again b c w v k h issued i j d g e z m n o x y q r a) (same_or (number_at c x (suc y)) (suc issued))

pub index_grown : (root t u again : State) (b c : PlainBranch) (w v : List Junction) (k h issued number : ℕ) (i j : PlainIndex) (d : Step) (g : Bool) → number ≡ suc issued → Kept root t b w k issued → Kept again u c v h number → Grown root b w k u c v h number d g → IsIndex i b issued → Notes i (number_at b w k) w j v → IsIndex j c number
unfolding LeadsTo
index_grown root t u again b c w v k h issued number i j d g en e z m n o =
    let y = subst (λ a. Kept again u c v h a) en z in
    let x = subst (λ a. Grown root b w k u c v h a d g) en m in
    let l = fitted_way c v 64 0 0 (path_way c v h (kept_path _ _ _ _ _ _ y)) y.fitted in
    let q = noting i j (number_at b w k) issued w v n.closed n.long (n.leads w k (kept_path _ _ _ _ _ _ e) e.proper) l o in
    let s = length_push i.branches (next_branch i (number_at b w k) q.fork) in
    let a = n.long in
    subst (λ z. IsIndex j c z) (sym en) (record {
      long = ap (λ z. length z.branches) q.is ∙ (omega (arith, s, a));
      closed = subst (λ z. IsClosed z) (sym q.is) (closed_noted i (number_at b w k) q.fork n.closed);
      leads = led root t u again b c w v k h issued i j d g e y x n q;
    })

-- a node that does not stand where the index leads stands nowhere
pub missing_elsewhere : (i : PlainIndex) (b : PlainBranch) (n : ℕ) → Fitted b.forks b.run 64 0 0 → LeadsTo i b → IsElsewhere n b (way_to i n) → IsMissing n b
unfolding LeadsTo
missing_elsewhere i b n f h e =
    missing_anywhere b n (⊎_elim (λ z. z)
    (λ (z : (r : Row) × find_in n 0 true b ≡ Some r).
    let s = spot n 0 true b z.0 64 0 0 f z.1 in
    let w : way_to i n ≡ s.way = ap (λ z. way_to i z) (sym (s.numbered 0)) ∙ h s.way s.at s.path (path_proper b s.way s.at f s.path s.inside) in
    absurd (e 0 s.at s.inside (subst (λ z. IsPath b z s.at) (sym w) s.path) (ap (λ z. number_at b z s.at) w ∙ s.numbered 0)))
    (option_case (find_in n 0 true b)))
