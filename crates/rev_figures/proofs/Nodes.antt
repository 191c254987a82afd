-- One node more on the way up: the rows of the path from it on.
use Rattle.std.proofs.Common.{◌≡◌, ℕ, zero, suc, ◌+◌, ◌-◌, ◌<◌, List, [], ◌∷◌, ◌++◌, Some, is_some, slice_get, sym, ◌∙◌, ap}
use Rattle.std.proofs.lemmas.Bool.{false≢true}
use Rattle.rev_model.specs.State.{State}
use Rattle.rev_model.specs.Actor.{Step}
use Rattle.rev_model.specs.Causes.{step_removals}
use Rattle.rev_model.specs.Track.{removals}
use Rattle.rev_model.specs.declared.Outcome.{Outcome}
use Rattle.rev_inverse.specs.Record.{PlainRecord}
use Rattle.rev_tree.specs.Steps.{outcome_of}
use Rattle.rev_tree.specs.Rows.{row_of, parent_of, option_parent, at}
use Rattle.rev_tree.specs.Machine.{lineage}
use Rattle.rev_tree.specs.Positions.{SessionState}
use Rattle.rev_tree.specs.Trails.{Trailed}
use Rattle.rev_explain.specs.Departures.{departures_in, departures_at}
use Rattle.rev_explain.proofs.Climbs.{Climbs, climbs, node_is, row_is}
use Rattle.rev_figures.specs.Asks.{asked_at, asked_along, row_asked}
use Rattle.rev_figures.specs.Rows.{step_row, leaving_rows, move_rows}
use Rattle.rev_figures.specs.Paths.{steps_by, steps_along, leavings_by, leavings_along, moves_by, moves_along}

-- what stands in a list stands in a longer one
pub get_before : (xs ys : List ℕ) (i x : ℕ) → slice_get xs i ≡ Some x → slice_get (xs ++ ys) i ≡ Some x
get_before [] ys zero x e = absurd (false≢true (ap is_some e))
get_before [] ys (suc i) x e = absurd (false≢true (ap is_some e))
get_before (y ∷ xs) ys zero x e = e
get_before (y ∷ xs) ys (suc i) x e = get_before xs ys i x e

-- the node at which the session stands, on the way from the root to where it stood
module _ (v : SessionState) (d : ℕ) (w : Climbs v d) (n : ℕ) (e : Step) (o : Outcome) (r : PlainRecord) (pos : 0 < d) (h : Trailed (record v { current = w.node }) d n e o r) where
  -- what is told of it where the session stands is told where it stood
  abbrev pub lifted : Trailed v d n e o r
  lifted = record {
    row = h.row;
    numbered = ap (λ l. slice_get l (d - 1)) w.splits ∙ get_before (lineage v.rows w.node) w.below (d - 1) n h.numbered;
    known = h.known;
    falls = h.falls;
    played = h.played;
    answered = h.answered;
    before = h.before;
    sound = h.sound;
    stepped = h.stepped;
    leads = h.leads;
    told = h.told;
  }

  -- the way to its parent
  abbrev pub above : Climbs v (d - 1)
  above = climbs v d n e o r w pos lifted

  pub same_node : w.node ≡ n
  same_node = node_is v d n e o r w pos lifted

  pub known_row : row_of v.rows w.node ≡ Some h.row
  known_row = row_is v d n e o r w pos lifted

  abbrev before : State
  before = at v.root v.rows h.row.parent

  abbrev after : State
  after = at v.root v.rows w.node

  -- what the row's step answered
  same_answer : outcome_of before h.row.step ≡ o
  same_answer = sym (h.answered ∙ ap (outcome_of before) h.played)

  pub parent_known : parent_of v.rows w.node ≡ Some h.row.parent
  parent_known = ap option_parent known_row

  pub steps_more : steps_along v.root v.rows (w.node ∷ w.below) ≡ step_row n after e o ∷ steps_along v.root v.rows w.below
  steps_more =
      ap (λ q. steps_by v.root v.rows w.node q ++ steps_along v.root v.rows w.below) known_row
      ∙ ap (λ m. step_row m after h.row.step (outcome_of before h.row.step) ∷ steps_along v.root v.rows w.below) same_node
      ∙ ap (λ a. step_row n after h.row.step a ∷ steps_along v.root v.rows w.below) same_answer
      ∙ ap (λ p. step_row n after p o ∷ steps_along v.root v.rows w.below) (sym h.played)

  pub asked_more : (k : List ℕ) → asked_along v.root v.rows k (w.node ∷ w.below) ≡ asked_at k e o after.globals.clock (asked_along v.root v.rows k w.below)
  asked_more k =
      ap (λ q. row_asked v.root v.rows k w.node q (asked_along v.root v.rows k w.below)) known_row
      ∙ ap (λ a. asked_at k h.row.step a after.globals.clock (asked_along v.root v.rows k w.below)) same_answer
      ∙ ap (λ p. asked_at k p o after.globals.clock (asked_along v.root v.rows k w.below)) (sym h.played)

  -- the keys that left, as the record tells them
  gone_here : departures_at w.node before h.row.step ≡ departures_in n e o (removals r.moves r.notes (at v.root v.rows n))
  gone_here =
      ap (λ m. departures_at m before h.row.step) same_node
      ∙ ap (λ a. departures_in n h.row.step a (step_removals before h.row.step)) same_answer
      ∙ ap (λ p. departures_in n p o (step_removals before p)) (sym h.played)
      ∙ ap (departures_in n e o) (sym h.told.told)

  pub leavings_more : leavings_along v.root v.rows d (w.node ∷ w.below)
      ≡ leaving_rows before d after.globals.clock (λ (k : List ℕ). asked_along v.root v.rows k (w.node ∷ w.below)) (departures_in n e o (removals r.moves r.notes (at v.root v.rows n))) ++ leavings_along v.root v.rows (d + 1) w.below
  leavings_more =
      ap (λ q. leavings_by v.root v.rows d w.node (λ (k : List ℕ). asked_along v.root v.rows k (w.node ∷ w.below)) q ++ leavings_along v.root v.rows (d + 1) w.below) known_row
      ∙ ap (λ ds. leaving_rows before d after.globals.clock (λ (k : List ℕ). asked_along v.root v.rows k (w.node ∷ w.below)) ds ++ leavings_along v.root v.rows (d + 1) w.below) gone_here

  pub moves_more : moves_along v.root v.rows d (w.node ∷ w.below) ≡ move_rows before d after.globals.clock o ++ moves_along v.root v.rows (d + 1) w.below
  moves_more =
      ap (λ q. moves_by v.root v.rows d w.node q ++ moves_along v.root v.rows (d + 1) w.below) known_row
      ∙ ap (λ a. move_rows before d after.globals.clock a ++ moves_along v.root v.rows (d + 1) w.below) same_answer
