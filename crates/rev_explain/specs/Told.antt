-- That the keys that left are those whose stories tell it.
-- Rule of this project: what `:gone` tells of a key is what comparing the states along the path gives.
use Rattle.std.specs.Prelude.{◌≡◌, ℕ, ◌<◌, List, [], ◌∷◌, ◌++◌, Option, None, Some}
use Rattle.std.specs.List.{filter, filter_map}
use Rattle.rev_model.specs.Track.{same_key}
use Rattle.rev_model.specs.declared.EventKind.{EventKind}
use Rattle.rev_model.specs.declared.EventKind.TheVariants as kind
use Rattle.rev_undotree.specs.declared.session.NodeId.{NodeId}
use Rattle.rev_explain.specs.Departures.{PlainDeparture}
use Rattle.rev_explain.specs.declared.events.Event.{Event}

-- the departure that an event of the key tells, if it tells that the key left
abbrev pub told_by : List ℕ → NodeId → EventKind → Option PlainDeparture
told_by k n (kind.Left c) = Some (record { node = n.0; key = k; cause = c })
told_by k n (kind.Stored q) = None
told_by k n (kind.Replaced q) = None
told_by k n (kind.Moved p q) = None

-- the departures that the events of the key tell, in their order
abbrev pub story_departures : List ℕ → List Event → List PlainDeparture
story_departures k es = filter_map (λ (e : Event). told_by k e.node e.kind) es

-- of these departures, those of the key
abbrev pub key_departures : List ℕ → List PlainDeparture → List PlainDeparture
key_departures k ds = filter (λ (d : PlainDeparture). same_key k d.key) ds

-- the nodes of these departures rise, from above m on
abbrev pub Rise : ℕ → List PlainDeparture → Type 0
Rise m [] = Unit {0}
Rise m (d ∷ ds) = (m < d.node) × Rise d.node ds

-- the departures of the key in ds are, in their order, those that its events tell: the last of them, and all where all
-- are wanted; there is at most one a node
pub record IsTold (limit : Option ℕ) (k : List ℕ) (es : List Event) (ds : List PlainDeparture) : Type 0 where
  pub older : List PlainDeparture
  pub exact : story_departures k es ≡ older ++ key_departures k ds
  pub whole : limit ≡ None → older ≡ []
  pub once : Rise 0 (key_departures k ds)

-- the same of each key, by its story
abbrev pub AreTold : Option ℕ → (List ℕ → List Event) → List PlainDeparture → Type 0
AreTold limit story ds = (k : List ℕ) → IsTold limit k (story k) ds
