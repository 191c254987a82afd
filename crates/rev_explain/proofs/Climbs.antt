-- The way from the current node up to the root.
use Rattle.std.specs.Prelude.{ℕ, zero, suc, ◌≡◌, ◌+◌, ◌-◌, ◌<◌, ◌≤◌, ◌⊎◌, true, false, List, [], ◌∷◌, ◌++◌, Option, None, Some, is_some, length, slice_get, refl}
use Rattle.std.proofs.Common.{sym, ◌∙◌, ap, arith, inl, inr}
use Rattle.std.proofs.lemmas.Bool.{false≢true, true≢false}
use Rattle.std.proofs.lemmas.Bool.Decides.{leb_tells}
use Rattle.std.proofs.lemmas.List.{append-nil, append_assoc, length-append}
use Rattle.rev_model.specs.Actor.{Step}
use Rattle.rev_model.specs.Events.{event}
use Rattle.rev_model.specs.Track.{key_place_of}
use Rattle.rev_model.specs.declared.Outcome.{Outcome}
use Rattle.rev_inverse.specs.Record.{PlainRecord}
use Rattle.rev_tree.specs.Rows.{Row, RowsFall, row_of, at}
use Rattle.rev_tree.specs.Machine.{nodes_from, lineage_within, lineage}
use Rattle.rev_tree.specs.Positions.{SessionState}
use Rattle.rev_tree.specs.Trails.{Trailed}
use Rattle.rev_tree.specs.Mentioned.{Still, IsStill}
use Rattle.rev_explain.specs.Story.{told, row_events, events_along, story}
pub use Rattle.rev_explain.specs.Clocks.{Climbs}

-- ---- the lineage of a node

nodes_same : (q : Option Row) (f g : Row → List ℕ) → ((r : Row) → q ≡ Some r → f r ≡ g r) → nodes_from q f ≡ nodes_from q g
nodes_same None f g h = refl
nodes_same (Some r) f g h = h r refl

enough : (rows : List (Option Row)) → RowsFall rows → (a b n : ℕ) → n ≤ a → n ≤ b → lineage_within a rows n ≡ lineage_within b rows n
enough rows w zero zero n h g = refl
enough rows w zero (suc b) zero h g = refl
enough rows w zero (suc b) (suc n) h g = absurd (omega (arith, h))
enough rows w (suc a) zero zero h g = refl
enough rows w (suc a) zero (suc n) h g = absurd (omega (arith, g))
enough rows w (suc a) (suc b) n h g =
    nodes_same (row_of rows n) (λ r. lineage_within a rows r.parent ++ n ∷ []) (λ r. lineage_within b rows r.parent ++ n ∷ [])
    (λ r e. let l = w n r e in ap (λ z. z ++ n ∷ []) (enough rows w a b r.parent (omega (arith, l, h)) (omega (arith, l, g))))

pub lineage_above : (rows : List (Option Row)) → RowsFall rows → (n : ℕ) (r : Row) → row_of rows n ≡ Some r → lineage rows n ≡ lineage rows r.parent ++ n ∷ []
unfolding lineage
lineage_above rows w zero r e = absurd (false≢true (ap is_some e))
lineage_above rows w (suc m) r e =
    let l = w (suc m) r e in
    ap (λ z. nodes_from z (λ q. lineage_within m rows q.parent ++ suc m ∷ [])) e ∙ ap (λ z. z ++ suc m ∷ []) (enough rows w m r.parent r.parent (omega (arith, l)) (omega arith))

lineage_none : (rows : List (Option Row)) (n : ℕ) → row_of rows n ≡ None → lineage rows n ≡ []
unfolding lineage
lineage_none rows zero e = refl
lineage_none rows (suc m) e = ap (λ z. nodes_from z (λ q. lineage_within m rows q.parent ++ suc m ∷ [])) e

get_behind : (xs : List ℕ) (y : ℕ) (zs : List ℕ) → slice_get (xs ++ y ∷ zs) (length xs) ≡ Some y
get_behind [] y zs = refl
get_behind (x ∷ xs) y zs = get_behind xs y zs

one_number : (m n : ℕ) → Some m ≡ Some n → m ≡ n
one_number m n e = cc

length_one : (l : List ℕ) (n : ℕ) → length (l ++ n ∷ []) ≡ length l + 1
length_one [] n = refl
length_one (x ∷ xs) n = let more : length (xs ++ n ∷ []) ≡ length xs + 1 = length_one xs n in omega (arith, more)

one_less : (l : List ℕ) (n d : ℕ) → length (l ++ n ∷ []) ≡ d → length l ≡ d - 1
one_less l n d f = let m : length (l ++ n ∷ []) ≡ length l + 1 = length_one l n in omega (arith, m, f)

-- ---- the climb

abbrev pub climb_starts : (v : SessionState) → Climbs v (length (lineage v.rows v.current))
climb_starts v = record { node = v.current; below = []; splits = sym (append-nil (lineage v.rows v.current)); deep = refl }

-- a node below the root has a row
row_here : (v : SessionState) (d : ℕ) (w : Climbs v d) → 0 < d → (q : Row) × (row_of v.rows w.node ≡ Some q)
row_here v d w pos = go (row_of v.rows w.node) refl where
  go : (p : Option Row) → row_of v.rows w.node ≡ p → (q : Row) × (row_of v.rows w.node ≡ Some q)
  go None f = let none : length (lineage v.rows w.node) ≡ 0 = ap length (lineage_none v.rows w.node f) in absurd (omega (arith, none, w.deep, pos))
  go (Some q) f = (q, f)

-- one node up, by the node's row
module _ (v : SessionState) (d : ℕ) (w : Climbs v d) (falls : RowsFall v.rows) (q : Row) (known : row_of v.rows w.node ≡ Some q) where
  -- the way to the node is that to its parent, and the node
  up_is : lineage v.rows w.node ≡ lineage v.rows q.parent ++ w.node ∷ []
  up_is = lineage_above v.rows falls w.node q known

  pub up_splits : lineage v.rows v.current ≡ lineage v.rows q.parent ++ w.node ∷ w.below
  up_splits = w.splits ∙ ap (λ l. l ++ w.below) up_is ∙ append_assoc (lineage v.rows q.parent) (w.node ∷ []) w.below

  pub up_deep : length (lineage v.rows q.parent) ≡ d - 1
  up_deep = one_less (lineage v.rows q.parent) w.node d (ap length (sym up_is) ∙ w.deep)

  -- at the parent
  abbrev climb_up : Climbs v (d - 1)
  climb_up = record { node = q.parent; below = w.node ∷ w.below; splits = up_splits; deep = up_deep }

  -- the node is the d-th of the way
  number_here : slice_get (lineage v.rows v.current) (d - 1) ≡ Some w.node
  number_here =
      ap (λ l. slice_get l (d - 1)) up_splits ∙ ap (slice_get (lineage v.rows q.parent ++ w.node ∷ w.below)) (sym up_deep)
      ∙ get_behind (lineage v.rows q.parent) w.node w.below

  -- the story at the node is that at its parent, with the event of the node
  story_up : (k : List ℕ) → story v.root v.rows w.node k ≡ story v.root v.rows q.parent k ++ told w.node (event (at v.root v.rows q.parent) q.step k)
  story_up k =
      ap (events_along v.root v.rows k) up_is
      ∙ along_more (lineage v.rows q.parent)
      ∙ ap (λ p. story v.root v.rows q.parent k ++ row_events v.root v.rows k w.node p) known
    where
      along_more : (l : List ℕ) → events_along v.root v.rows k (l ++ w.node ∷ []) ≡ events_along v.root v.rows k l ++ row_events v.root v.rows k w.node (row_of v.rows w.node)
      along_more [] = append-nil (row_events v.root v.rows k w.node (row_of v.rows w.node))
      along_more (x ∷ xs) =
          ap (λ l. row_events v.root v.rows k x (row_of v.rows x) ++ l) (along_more xs)
          ∙ sym (append_assoc (row_events v.root v.rows k x (row_of v.rows x)) (events_along v.root v.rows k xs) (row_events v.root v.rows k w.node (row_of v.rows w.node)))

-- one node up, by what the session tells of the d-th node
module _ (v : SessionState) (d n : ℕ) (e : Step) (o : Outcome) (r : PlainRecord) (w : Climbs v d) (pos : 0 < d) (h : Trailed v d n e o r) where
  -- it is the node that the climb is at
  pub node_is : w.node ≡ n
  node_is = let q = row_here v d w pos in one_number w.node n (sym (number_here v d w h.falls q.0 q.1) ∙ h.numbered)

  pub row_is : row_of v.rows w.node ≡ Some h.row
  row_is = ap (row_of v.rows) node_is ∙ h.known

  -- at its parent
  abbrev pub climbs : Climbs v (d - 1)
  climbs = climb_up v d w h.falls h.row row_is

  pub node_state : at v.root v.rows w.node ≡ at v.root v.rows n
  node_state = ap (at v.root v.rows) node_is

  pub story_more : (k : List ℕ) → story v.root v.rows w.node k ≡ story v.root v.rows h.row.parent k ++ told n (event (at v.root v.rows h.row.parent) e k)
  story_more k =
      story_up v d w h.falls h.row row_is k
      ∙ ap (λ m. story v.root v.rows h.row.parent k ++ told m (event (at v.root v.rows h.row.parent) h.row.step k)) node_is
      ∙ ap (λ f. story v.root v.rows h.row.parent k ++ told n (event (at v.root v.rows h.row.parent) f k)) (sym h.played)

-- ---- any depth

-- so many nodes up
up_by : (v : SessionState) → RowsFall v.rows → (gap high d : ℕ) → Climbs v high → high ≡ d + gap → Climbs v d
up_by v falls zero high d w e = let deep = w.deep in record { node = w.node; below = w.below; splits = w.splits; deep = omega (arith, e, deep) }
up_by v falls (suc gap) high d w e =
    let here = row_here v high w (omega (arith, e)) in
    up_by v falls gap (high - 1) d (climb_up v high w falls here.0 here.1) (omega (arith, e))

-- at any depth of the way
pub climb_to : (v : SessionState) → RowsFall v.rows → (d : ℕ) → d ≤ length (lineage v.rows v.current) → Climbs v d
climb_to v falls d l = up_by v falls (length (lineage v.rows v.current) - d) (length (lineage v.rows v.current)) d (climb_starts v) (omega (arith, l))

-- a climb is within the way
pub climb_within : (v : SessionState) (d : ℕ) → Climbs v d → d ≤ length (lineage v.rows v.current)
climb_within v d w =
    let s = ap length w.splits in
    let a = length-append (lineage v.rows w.node) w.below in
    let e = w.deep in
    omega (arith, s, a, e)

-- ---- nodes at which nothing befell the key

-- the key's story and place at a node are those at depth `low` of the way
pub record Skips (v : SessionState) (k : List ℕ) (node low : ℕ) : Type 0 where
  pub climb : Climbs v low
  pub told_same : story v.root v.rows node k ≡ story v.root v.rows climb.node k
  pub place_same : key_place_of (at v.root v.rows node) k ≡ key_place_of (at v.root v.rows climb.node) k

module _ (v : SessionState) (falls : RowsFall v.rows) (k : List ℕ) (low : ℕ) where
  -- one node more below those that are skipped
  skip_one : (high : ℕ) (w : Climbs v high) (q : Row) → Still v.root v.rows w.node q k → row_of v.rows w.node ≡ Some q → Skips v k q.parent low → Skips v k w.node low
  skip_one high w q still known above = record {
    climb = above.climb;
    told_same = story_up v high w falls q known k ∙ ap (λ c. story v.root v.rows q.parent k ++ told w.node c) still.quiet
        ∙ append-nil (story v.root v.rows q.parent k) ∙ above.told_same;
    place_same = sym still.stays ∙ above.place_same;
  }

  -- so many nodes are skipped
  skip_nodes : (gap high : ℕ) (w : Climbs v high) → high ≡ low + gap → IsStill v k low high → Skips v k w.node low
  skip_nodes zero high w e still =
      let deep : length (lineage v.rows w.node) ≡ high = w.deep in
      record { climb = record { node = w.node; below = w.below; splits = w.splits; deep = omega (arith, e, deep) }; told_same = refl; place_same = refl }
  skip_nodes (suc gap) high w e still =
      let pos : 0 < high = omega (arith, e) in
      let here = row_here v high w pos in
      let quiet = still high w.node here.0 (omega (arith, e)) (omega arith) (number_here v high w falls here.0 here.1) here.1 in
      skip_one high w here.0 quiet here.1
      (skip_nodes gap (high - 1) (climb_up v high w falls here.0 here.1) (omega (arith, e)) (λ d n r l u. still d n r l (omega (arith, u))))

  -- all nodes behind depth `low` up to depth `high` are skipped
  pub skips : (high : ℕ) (w : Climbs v high) → low ≤ high → IsStill v k low high → Skips v k w.node low
  skips high w l still = skip_nodes (high - low) high w (omega (arith, l)) still

-- the way goes on only above a node
pub above_root : (d n : ℕ) → ((d ≡ 0) ⊎ (n < d) → true ≡ false) → 0 < d
above_root zero n f = absurd (true≢false (f (inl refl)))
above_root (suc d) n f = omega arith

-- and it is no longer than it is
pub above_end : (d n : ℕ) → ((d ≡ 0) ⊎ (n < d) → true ≡ false) → d ≤ n
above_end d n f = elim (leb_tells d n) [
  | inl p ↦ p.1
  | inr p ↦ absurd (true≢false (f (inr p.1)))
]

-- the way ends at the root
pub at_end : (v : SessionState) (d : ℕ) → Climbs v d → ((d ≡ 0) ⊎ (length (lineage v.rows v.current) < d)) → d ≡ 0
at_end v d h (inl e) = e
at_end v d h (inr o) =
    let s = ap length h.splits in
    let a = length-append (lineage v.rows h.node) h.below in
    let e = h.deep in
    absurd (omega (arith, s, a, e, o))
