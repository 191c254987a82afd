-- What is read on the way up from a node.
use Rattle.std.proofs.Common.{◌≡◌, ℕ, ◌+◌, ◌-◌, ◌<◌, ◌⊎◌, inl, inr, Bool, true, false, cond, List, [], ◌∷◌, ◌++◌, Option, None, Some, is_some, length, reverse, refl, sym, ◌∙◌, ap, subst, arith}
use Rattle.std.proofs.lemmas.Bool.{false≢true}
use Rattle.std.proofs.lemmas.List.{append_assoc, append-nil, reverse-append}
use Rattle.rev_model.specs.State.{State}
use Rattle.rev_model.specs.Actor.{Step}
use Rattle.rev_model.specs.Track.{removals}
use Rattle.rev_model.specs.declared.Mover.{Mover}
use Rattle.rev_model.specs.declared.Outcome.{Outcome}
use Rattle.rev_model.specs.declared.Outcome.TheVariants as outcome
use Rattle.rev_inverse.specs.Record.{PlainRecord}
use Rattle.rev_inverse.proofs.Lists.{map-reverse}
use Rattle.rev_tree.specs.Rows.{row_of, parent_of, at}
use Rattle.rev_tree.specs.Machine.{lineage}
use Rattle.rev_tree.specs.Positions.{SessionState}
use Rattle.rev_tree.specs.Trails.{Trailed}
use Rattle.rev_explain.specs.Departures.{PlainDeparture, departures_in}
use Rattle.rev_explain.proofs.Climbs.{Climbs, climb_starts}
use Rattle.rev_figures.specs.Asks.{no_ask, asked_at, asked_along}
use Rattle.rev_figures.specs.Climbing.{HasClimbed}
use Rattle.rev_figures.specs.Rows.{step_row, leaving_row, leaving_rows, move_row, move_rows, bytes_rows}
use Rattle.rev_figures.specs.Paths.{ends_slot, steps_along, leavings_along, moves_along, bytes_along, path_steps, path_leavings, path_moves, path_bytes, slot_length}
use Rattle.rev_figures.specs.declared.asks.Ask.{Ask}
use Rattle.rev_figures.specs.declared.path.Leaving.{Leaving}
use Rattle.rev_figures.specs.declared.path.PageMove.{PageMove}
use Rattle.rev_figures.specs.declared.path.Path.{Path}
use Rattle.rev_figures.specs.declared.path.PathStep.{PathStep}
use Rattle.rev_figures.specs.declared.path.QueueBytes.{QueueBytes}
use Rattle.rev_figures.proofs.Nodes.{above, known_row, parent_known, steps_more, asked_more, leavings_more, moves_more}

-- the rows that were read, the last first
pub record Read : Type 0 where
  pub steps : List PathStep
  pub leavings : List Leaving
  pub moves : List PageMove
  pub bytes : List QueueBytes

-- those of a path
abbrev pub read_of : {A : Type 0} → Path A → Read
read_of p = record { steps = p.steps.items; leavings = p.leavings.items; moves = p.moves.items; bytes = p.bytes.items }

-- the session stands at depth d of the way to where it stood, and what stands below was read; a slot has l steps, the
-- way m
pub record Climbing (v now : SessionState) (d l m : ℕ) (first read : Read) (asked : List ℕ → Ask) : Type 0 where
  pub climb : Climbs v d
  pub stands : now ≡ record v { current = climb.node }
  pub stays : climb.below ≡ [] → climb.node ≡ v.current
  pub steps : read.steps ≡ first.steps ++ reverse (steps_along v.root v.rows climb.below)
  pub leavings : read.leavings ≡ first.leavings ++ reverse (leavings_along v.root v.rows (d + 1) climb.below)
  pub moves : read.moves ≡ first.moves ++ reverse (moves_along v.root v.rows (d + 1) climb.below)
  pub bytes : read.bytes ≡ first.bytes ++ reverse (bytes_along v.root v.rows l m (d + 1) climb.below)
  pub noted : (k : List ℕ) → asked k ≡ asked_along v.root v.rows k climb.below

pub climbing_starts : (v : SessionState) (l m : ℕ) (first : Read) (asked : List ℕ → Ask) → ((k : List ℕ) → asked k ≡ no_ask) → Climbing v v (length (lineage v.rows v.current)) l m first first asked
climbing_starts v l m first asked h = record {
  climb = climb_starts v;
  stands = refl;
  stays = λ e. refl;
  steps = sym (append-nil first.steps);
  leavings = sym (append-nil first.leavings);
  moves = sym (append-nil first.moves);
  bytes = sym (append-nil first.bytes);
  noted = h;
}

pub has_climbed : (v now : SessionState) (d l m : ℕ) (first read : Read) (asked : List ℕ → Ask) → Climbing v now d l m first read asked → HasClimbed v now
has_climbed v now d l m first read asked w = record {
  node = w.climb.node;
  below = w.climb.below;
  stands = w.stands;
  splits = w.climb.splits;
  stays = w.stays;
}

-- a session that stands at another node
abbrev pub sent : ℕ → SessionState → SessionState
sent c s = record s { current = c }

abbrev pub standing : SessionState → ℕ → SessionState
standing v c = record v { current = c }

-- rows that were added, the last first, in front of those behind them
added : {X : Type 0} (first read more here rest all : List X) → read ≡ first ++ reverse rest → more ≡ read ++ reverse here → all ≡ here ++ rest → more ≡ first ++ reverse all
added first read more here rest all re me ae =
    me ∙ ap (λ l. l ++ reverse here) re ∙ append_assoc first (reverse rest) (reverse here)
    ∙ ap (λ l. first ++ l) (sym (reverse-append here rest)) ∙ ap (λ l. first ++ reverse l) (sym ae)

row_turned : (i t : ℕ) (q : Option Mover) → move_row i t q ≡ reverse (move_row i t q)
row_turned i t None = refl
row_turned i t (Some m) = refl

move_turned : (s : State) (i t : ℕ) (o : Outcome) → move_rows s i t o ≡ reverse (move_rows s i t o)
move_turned s i t outcome.Finished = row_turned i t s.globals.mover
move_turned s i t o = refl

abbrev is_empty : List ℕ → Bool
is_empty [] = true
is_empty (x ∷ xs) = false

some_same : (m n : ℕ) → Some m ≡ Some n → m ≡ n
some_same m n e = cc

-- one node more
module _ (v now : SessionState) (d l m : ℕ) (first read : Read) (asked : List ℕ → Ask) (w : Climbing v now d l m first read asked)
    (n : ℕ) (e : Step) (o : Outcome) (r : PlainRecord) (pos : 0 < d) (told : Trailed now d n e o r) where
  abbrev trailed : Trailed (record v { current = w.climb.node }) d n e o r
  trailed = subst (λ s. Trailed s d n e o r) w.stands told

  abbrev up : Climbs v (d - 1)
  up = above v d w.climb n e o r pos trailed

  pub is_below : now.current ≡ 0 → ⊥
  is_below z = false≢true (ap is_some (ap (row_of v.rows) (sym z ∙ ap (λ s. s.current) w.stands) ∙ known_row v d w.climb n e o r pos trailed))

  module _ (p : ℕ) (later : SessionState) (parent : parent_of now.rows now.current ≡ Some p) (moved : later ≡ record now { current = p }) where
    up_is : p ≡ up.node
    up_is = some_same p up.node (sym parent ∙ ap (λ s. parent_of s.rows s.current) w.stands ∙ parent_known v d w.climb n e o r pos trailed)

    pub later_is : later ≡ record v { current = up.node }
    later_is = moved ∙ ap (sent p) w.stands ∙ ap (standing v) up_is

    pub has_climbed_up : HasClimbed v later
    has_climbed_up = record {
      node = up.node;
      below = up.below;
      stands = later_is;
      splits = up.splits;
      stays = λ f. absurd (false≢true (ap is_empty f));
    }

    module _ (after before : State) (t : ℕ) (gone : List PlainDeparture) (more : Read) (asks : List ℕ → Ask)
        (after_is : after ≡ at now.root now.rows now.current) (before_is : before ≡ at later.root later.rows later.current) (second : t ≡ after.globals.clock)
        (steps_is : more.steps ≡ read.steps ++ step_row n after e o ∷ [])
        (asks_is : (k : List ℕ) → asks k ≡ asked_at k e o t (asked k))
        (gone_is : gone ≡ reverse (departures_in n e o (removals r.moves r.notes (at v.root v.rows n))))
        (bytes_is : more.bytes ≡ read.bytes ++ reverse (cond (ends_slot d l m) (bytes_rows after d) []))
        (moves_is : more.moves ≡ read.moves ++ move_rows before d t o)
        (leavings_is : more.leavings ≡ read.leavings ++ leaving_rows before d t asks gone) where
      abbrev below : List ℕ
      below = w.climb.below

      abbrev left : State
      left = at v.root v.rows w.climb.node

      abbrev met : State
      met = at v.root v.rows up.node

      after_here : after ≡ left
      after_here = after_is ∙ ap (λ s. at s.root s.rows s.current) w.stands

      before_here : before ≡ met
      before_here = before_is ∙ ap (λ s. at s.root s.rows s.current) later_is

      second_here : t ≡ left.globals.clock
      second_here = second ∙ ap (λ s. s.globals.clock) after_here

      one_up : d ≡ d - 1 + 1
      one_up = omega (arith, pos)

      asked_here : (k : List ℕ) → asks k ≡ asked_along v.root v.rows k (w.climb.node ∷ below)
      asked_here k =
          asks_is k
          ∙ ap (asked_at k e o t) (w.noted k)
          ∙ ap (λ u. asked_at k e o u (asked_along v.root v.rows k below)) second_here
          ∙ sym (asked_more v d w.climb n e o r pos trailed k)

      asks_all : asks ≡ (λ (k : List ℕ). asked_along v.root v.rows k (w.climb.node ∷ below))
      asks_all = λ j. λ (k : List ℕ). asked_here k j

      abbrev departed : List PlainDeparture
      departed = departures_in n e o (removals r.moves r.notes (at v.root v.rows n))

      rows_here : leaving_rows before d t asks gone ≡ reverse (leaving_rows met d left.globals.clock (λ (k : List ℕ). asked_along v.root v.rows k (w.climb.node ∷ below)) departed)
      rows_here =
          ap (λ ds. leaving_rows before d t asks ds) gone_is
          ∙ ap (λ s. leaving_rows s d t asks (reverse departed)) before_here
          ∙ ap (λ u. leaving_rows met d u asks (reverse departed)) second_here
          ∙ ap (λ f. leaving_rows met d left.globals.clock f (reverse departed)) asks_all
          ∙ map-reverse (λ (x : PlainDeparture). leaving_row met d left.globals.clock x (asked_along v.root v.rows x.key (w.climb.node ∷ below))) departed

      moved_here : move_rows before d t o ≡ reverse (move_rows met d left.globals.clock o)
      moved_here =
          ap (λ s. move_rows s d t o) before_here
          ∙ ap (λ u. move_rows met d u o) second_here
          ∙ move_turned met d left.globals.clock o

      pub climbing_up : Climbing v later (d - 1) l m first more asks
      climbing_up = record {
        climb = up;
        stands = later_is;
        stays = λ f. absurd (false≢true (ap is_empty f));
        steps = added first.steps read.steps more.steps (step_row n left e o ∷ []) (steps_along v.root v.rows below) (steps_along v.root v.rows (w.climb.node ∷ below)) w.steps
            (steps_is ∙ ap (λ s. read.steps ++ step_row n s e o ∷ []) after_here) (steps_more v d w.climb n e o r pos trailed);
        leavings = added first.leavings read.leavings more.leavings (leaving_rows met d left.globals.clock (λ (k : List ℕ). asked_along v.root v.rows k (w.climb.node ∷ below)) departed)
            (leavings_along v.root v.rows (d + 1) below) (leavings_along v.root v.rows d (w.climb.node ∷ below)) w.leavings
            (leavings_is ∙ ap (λ rs. read.leavings ++ rs) rows_here) (leavings_more v d w.climb n e o r pos trailed)
            ∙ ap (λ i. first.leavings ++ reverse (leavings_along v.root v.rows i (w.climb.node ∷ below))) one_up;
        moves = added first.moves read.moves more.moves (move_rows met d left.globals.clock o) (moves_along v.root v.rows (d + 1) below) (moves_along v.root v.rows d (w.climb.node ∷ below)) w.moves
            (moves_is ∙ ap (λ rs. read.moves ++ rs) moved_here) (moves_more v d w.climb n e o r pos trailed)
            ∙ ap (λ i. first.moves ++ reverse (moves_along v.root v.rows i (w.climb.node ∷ below))) one_up;
        bytes = added first.bytes read.bytes more.bytes (cond (ends_slot d l m) (bytes_rows left d) []) (bytes_along v.root v.rows l m (d + 1) below) (bytes_along v.root v.rows l m d (w.climb.node ∷ below)) w.bytes
            (bytes_is ∙ ap (λ s. read.bytes ++ reverse (cond (ends_slot d l m) (bytes_rows s d) [])) after_here) refl
            ∙ ap (λ i. first.bytes ++ reverse (bytes_along v.root v.rows l m i (w.climb.node ∷ below))) one_up;
        noted = asked_here;
      }

no_nodes : (xs : List ℕ) → length xs ≡ 0 → xs ≡ []
no_nodes [] e = refl
no_nodes (x ∷ xs) e = absurd (omega (arith, e))

-- the way ends at the root
module _ (v now : SessionState) (d l m : ℕ) (first read : Read) (asked : List ℕ → Ask) (w : Climbing v now d l m first read asked)
    (stop : (d ≡ 0) ⊎ (length (lineage now.rows now.current) < d)) where
  at_top : (d ≡ 0) ⊎ (length (lineage now.rows now.current) < d) → d ≡ 0
  at_top (inl z) = z
  at_top (inr o) =
      let s : length (lineage now.rows now.current) ≡ length (lineage v.rows w.climb.node) = ap (λ s. length (lineage s.rows s.current)) w.stands in
      let e : length (lineage v.rows w.climb.node) ≡ d = w.climb.deep in
      absurd (omega (arith, s, e, o))

  none_above : lineage v.rows w.climb.node ≡ []
  none_above = no_nodes (lineage v.rows w.climb.node) (w.climb.deep ∙ at_top stop)

  pub at_root : lineage now.rows now.current ≡ []
  at_root = ap (λ s. lineage s.rows s.current) w.stands ∙ none_above

  all_below : w.climb.below ≡ lineage v.rows v.current
  all_below = sym (w.climb.splits ∙ ap (λ l. l ++ w.climb.below) none_above)

  from_one : d + 1 ≡ 1
  from_one = let z : d ≡ 0 = at_top stop in omega (arith, z)

  pub steps_read : read.steps ≡ first.steps ++ reverse (path_steps v.root v.rows v.current)
  steps_read = w.steps ∙ ap (λ ns. first.steps ++ reverse (steps_along v.root v.rows ns)) all_below

  pub leavings_read : read.leavings ≡ first.leavings ++ reverse (path_leavings v.root v.rows v.current)
  leavings_read = w.leavings ∙ ap (λ i. first.leavings ++ reverse (leavings_along v.root v.rows i w.climb.below)) from_one
      ∙ ap (λ ns. first.leavings ++ reverse (leavings_along v.root v.rows 1 ns)) all_below

  pub moves_read : read.moves ≡ first.moves ++ reverse (path_moves v.root v.rows v.current)
  moves_read = w.moves ∙ ap (λ i. first.moves ++ reverse (moves_along v.root v.rows i w.climb.below)) from_one
      ∙ ap (λ ns. first.moves ++ reverse (moves_along v.root v.rows 1 ns)) all_below

  pub bytes_read : m ≡ length (lineage v.rows v.current) → l ≡ slot_length (length (lineage v.rows v.current)) → read.bytes ≡ first.bytes ++ reverse (path_bytes v.root v.rows v.current)
  bytes_read me le = w.bytes ∙ ap (λ i. first.bytes ++ reverse (bytes_along v.root v.rows l m i w.climb.below)) from_one
      ∙ ap (λ ns. first.bytes ++ reverse (bytes_along v.root v.rows l m 1 ns)) all_below
      ∙ ap (λ k. first.bytes ++ reverse (bytes_along v.root v.rows l k 1 (lineage v.rows v.current))) me
      ∙ ap (λ k. first.bytes ++ reverse (bytes_along v.root v.rows k (length (lineage v.rows v.current)) 1 (lineage v.rows v.current))) le
