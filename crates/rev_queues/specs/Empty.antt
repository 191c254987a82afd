-- The tables of a store without pages.
-- Rule of this project: how the queues of a new store lie in their tables.
use Rattle.std.specs.Prelude.{◌≡◌, ◌<◌, Some, List, length, slice_get}
use Rattle.rev_links.specs.declared.places.RingPlace.TheVariants.{End}
use Rattle.rev_queues.specs.declared.members.QueueId.{QueueId}
use Rattle.rev_queues.specs.Positions.{PositionLink}

-- each end stands before and behind itself
abbrev pub AreEnds : List PositionLink → Type 0
AreEnds ends = (q : QueueId) → q.number < length ends → slice_get ends q.number ≡ Some (record { previous = End q; next = End q })
