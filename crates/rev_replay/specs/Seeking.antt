-- Where in logs a place is, as its events are heard.
-- Rule of this project: the end is behind the last step. A step is where so many were played for the first time. A second
-- is behind the last event that is not later, or in front of all. A key is gone behind the last step at which it left.
use Rattle.std.specs.Prelude.{ℕ, ◌-◌, ◌==◌, min, ◌≡◌, Bool, true, not, ◌&&◌, nat_le, cond, List, [], ◌∷◌, length, Option, None, Some, IfSome, is_some}
use Rattle.rev_model.specs.Track.{same_key}
use Rattle.rev_tree.specs.Positions.{SessionState}
use Rattle.rev_tree.specs.Finds.{is_held}
use Rattle.rev_watch.specs.declared.event.Timestamp.{Timestamp}
use Rattle.rev_explain.specs.Departures.{PlainDeparture, departures}
use Rattle.rev_evidence.specs.Heard.{step_number}
use Rattle.rev_replay.specs.declared.keeping.Keeping.{Keeping}
use Rattle.rev_replay.specs.declared.keeping.Keeping.TheVariants.{Nothing, Last}
use Rattle.rev_replay.specs.declared.seeking.Sought.{Sought}
use Rattle.rev_replay.specs.declared.seeking.Sought.TheVariants as sought
use Rattle.rev_replay.specs.declared.seeking.Spot.{Spot}

-- what is looked for, free of an allocator
pub data PlainSought : Type 0 where
  Nowhere : PlainSought
  End : PlainSought
  Step : ℕ → PlainSought
  Second : ℕ → PlainSought
  Gone : List ℕ → PlainSought

abbrev pub plain_sought : {A : Type 0} → Sought A → PlainSought
plain_sought sought.Nowhere = Nowhere
plain_sought sought.End = End
plain_sought (sought.Step step) = Step step
plain_sought (sought.Second second) = Second second
plain_sought (sought.Gone key) = Gone key

-- the number of the last of these steps at which the key left, behind so many steps; else what was found before
abbrev pub left_last : (before : ℕ) → List ℕ → Option ℕ → List PlainDeparture → Option ℕ
left_last before k found [] = found
left_last before k found (d ∷ ds) = left_last before k (cond (same_key d.key k) (Some (step_number before d.node)) found) ds

-- behind how many steps the place is, where it is there by what was heard: a session with so many steps in front of it,
-- behind an event of this time
abbrev pub seen : PlainSought → (is_found : Bool) → (before : ℕ) → Timestamp → SessionState → Option ℕ
seen Nowhere is_found before time m = None
seen End is_found before time m = Some (step_number before (length m.rows))
seen (Step step) is_found before time m = cond (not is_found && nat_le step (step_number before (length m.rows))) (Some step) None
seen (Second second) is_found before time m = cond (nat_le time.seconds second) (Some (step_number before (length m.rows))) None
seen (Gone key) is_found before time m = left_last before key None (departures m.root m.rows m.current)

-- who looks for a place: the life of the server that is heard, how many steps stand in front of that, and what was found
pub record SeekerState : Type 0 where
  pub sought : PlainSought
  pub life : ℕ
  pub begin : ℕ
  pub found : Option Spot

-- nothing was heard
abbrev pub at_first : PlainSought → SeekerState
at_first sought = record { sought = sought; life = 1; begin = 0; found = None }

-- a place behind so many steps in that life, where one is seen; else what was found before
abbrev pub found_at : SeekerState → Option ℕ → Option Spot
found_at s None = s.found
found_at s (Some step) = Some (record { step = step; life = s.life; begin = s.begin })

-- that was looked at: a session with so many steps in front of it, behind an event of this time
abbrev pub looked : SeekerState → (before : ℕ) → Timestamp → SessionState → SeekerState
looked s before time m = record s { found = found_at s (seen s.sought (is_some s.found) before time m) }

-- a place in front of all events, where none was found
abbrev pub or_first : Option Spot → Option Spot
or_first None = Some (record { step = 0; life = 1; begin = 0 })
or_first (Some spot) = Some spot

-- a place behind so many steps, where it was found
abbrev pub behind : ℕ → Option Spot → Option Spot
behind step None = None
behind step (Some spot) = Some (record spot { step = step })

-- the place, where this was heard of it: where all events are later than a second, it is in front of them all; and a place
-- behind so many steps is behind as many
abbrev pub place_of : PlainSought → Option Spot → Option Spot
place_of Nowhere found = None
place_of End found = found
place_of (Step step) found = behind step found
place_of (Second second) found = or_first found
place_of (Gone key) found = found

-- what may come of a place that is looked for: one behind so many steps is behind as many, if it is there, and one of a
-- second always is
abbrev pub IsPlaceOf : PlainSought → Option Spot → Type 0
IsPlaceOf Nowhere spot = spot ≡ None
IsPlaceOf (Step step) spot = IfSome spot (λ found. found.step ≡ step)
IsPlaceOf (Second second) spot = is_some spot ≡ true
IsPlaceOf s spot = Unit {0}

-- what is kept where that is looked for: nothing where a key's leaving is read off each event, else the last steps
abbrev pub keeping_for : PlainSought → Keeping
keeping_for (Gone key) = Nothing
keeping_for s = Last

-- a tree with so many steps in front of it has all of the last life, of so many, which begins behind so many: it is the
-- one with this place in it, if the life is the place's and has no more steps in front of the place than are kept
abbrev pub serves : (before begin lives : ℕ) → Spot → (keep : ℕ) → Bool
serves before begin lives spot keep = (before == begin) && ((spot.life == lives) && nat_le (spot.step - keep) spot.begin)

-- the node behind so many steps, in a tree with so many in front of its root and so many nodes: none is in front of the
-- root or behind the last
abbrev pub node_behind : (before nodes step : ℕ) → ℕ
node_behind before nodes step = min (step - before) nodes

-- a session that stands at a node, where there is one
abbrev pub stood : SessionState → ℕ → SessionState
stood m n = cond (is_held m.rows n) (record m { current = n }) m
