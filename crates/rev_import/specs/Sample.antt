-- Sampling: which events of a log are taken.
-- Rule of this project: what a log says of a key that is not taken is left out, and all else is taken.
use Rattle.std.specs.Prelude.{ℕ, Bool, true}
use Rattle.rev_choices.specs.Sample.{takes}
use Rattle.rev_watch.specs.declared.event.Event.{Event}
use Rattle.rev_watch.specs.declared.event.Event.TheVariants.{LookUp, Store, Deletion, Eviction, PageMove, CrawlEnd, ConnectionOpened, ConnectionClosed, Unknown}

-- an event is taken where its key is, and where it has none: what the server does, it does for all keys
abbrev pub takes_event : {A : Type 0} → ℕ → Event A → Bool
takes_event n (LookUp key outcome class connection size) = takes n key
takes_event n (Store key command outcome ttl class connection size) = takes n key
takes_event n (Deletion key connection) = takes n key
takes_event n (Eviction key fetched ttl last_access class size) = takes n key
takes_event n (PageMove source target) = true
takes_event n (CrawlEnd class queue elapsed examined reclaimed) = true
takes_event n (ConnectionOpened connection) = true
takes_event n (ConnectionClosed connection) = true
takes_event n (Unknown kind) = true
