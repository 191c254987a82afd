-- The story of a key, its events on the way from the root to a node, and why it is not held there.
-- Rule of this project: what `:story` and `:why` tell, by the states along the way.
use Rattle.std.specs.Prelude.{ℕ, cond, List, [], ◌∷◌, ◌++◌, Option, None, Some}
use Rattle.rev_model.specs.State.{State}
use Rattle.rev_model.specs.Track.{held}
use Rattle.rev_model.specs.Events.{event}
use Rattle.rev_model.specs.declared.EventKind.{EventKind}
use Rattle.rev_model.specs.declared.EventKind.TheVariants as kind
use Rattle.rev_tree.specs.Rows.{Row, row_of, at}
use Rattle.rev_tree.specs.Machine.{lineage}
use Rattle.rev_undotree.specs.declared.session.NodeId.{NodeId}
use Rattle.rev_explain.specs.declared.events.Event.{Event}
use Rattle.rev_explain.specs.declared.events.Why.{Why}
use Rattle.rev_explain.specs.declared.events.Why.TheVariants as why

-- what node n tells of the key
abbrev pub told : ℕ → Option EventKind → List Event
told n None = []
told n (Some e) = record { node = record { 0 = n }; kind = e } ∷ []

-- by the row of node n: the states at its two ends are those of its parent and what the step makes of that
abbrev pub row_events : State → List (Option Row) → List ℕ → ℕ → Option Row → List Event
row_events root rows k n None = []
row_events root rows k n (Some r) = told n (event (at root rows r.parent) r.step k)

-- the events of the key at these nodes
abbrev pub events_along : State → List (Option Row) → List ℕ → List ℕ → List Event
events_along root rows k [] = []
events_along root rows k (n ∷ ns) = row_events root rows k n (row_of rows n) ++ events_along root rows k ns

-- the events of the key at n and the nodes above it, from the root
abbrev pub story : State → List (Option Row) → ℕ → List ℕ → List Event
story root rows n k = events_along root rows k (lineage rows n)

-- where an event tells that the key left, that; else w
abbrev pub left_or : Why → NodeId → EventKind → Why
left_or w n (kind.Left c) = why.Left n c
left_or w n (kind.Stored q) = w
left_or w n (kind.Replaced q) = w
left_or w n (kind.Moved p q) = w

-- where the key last left in these events, w if it did not
abbrev pub last_left : Why → List Event → Why
last_left w [] = w
last_left w (e ∷ es) = last_left (left_or w e.node e.kind) es

-- present, or where it last left in its story, or never there
abbrev pub why_of : State → List (Option Row) → ℕ → List ℕ → Why
why_of root rows n k = cond (held (at root rows n) k) why.Present (last_left why.Never (story root rows n k))
