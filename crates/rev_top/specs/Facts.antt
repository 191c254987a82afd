-- What an event says of a key.
-- Rule of this project: a look-up that a storage command made is none of a client. One that met an item whose lifetime
-- was over, or that was flushed, missed.
use Rattle.std.specs.Prelude.{ℕ, Bool, true, false, Option, Some, None}
use Rattle.rev_watch.specs.declared.event.Event.{Event}
use Rattle.rev_watch.specs.declared.event.Event.TheVariants.{LookUp, Store, Eviction}
use Rattle.rev_watch.specs.declared.event.LookUpOutcome.{LookUpOutcome}
use Rattle.rev_watch.specs.declared.event.LookUpOutcome.TheVariants as ended
use Rattle.rev_watch.specs.declared.event.StoreOutcome.{StoreOutcome}
use Rattle.rev_watch.specs.declared.event.StoreOutcome.TheVariants as stores
use Rattle.rev_top.specs.declared.facts.Fact.{Fact}
use Rattle.rev_top.specs.declared.facts.Fact.TheVariants.{Stored, Hit, Missed, Evicted}

-- what a look-up says that ended so
abbrev pub looked_up_so : LookUpOutcome → Option Fact
looked_up_so ended.Found = Some Hit
looked_up_so ended.NotFound = Some Missed
looked_up_so ended.Expired = Some Missed
looked_up_so ended.Flushed = Some Missed
looked_up_so ended.Other = None

-- the same, where it may be that of a storage command
abbrev pub looked_up : LookUpOutcome → (own : Bool) → Option Fact
looked_up o true = None
looked_up o false = looked_up_so o

-- what a storage command says that ended so, of data of so many bytes
abbrev pub stored : StoreOutcome → ℕ → Option Fact
stored stores.Stored s = Some (Stored s)
stored o s = None

-- what an event says of the key that it names
abbrev pub fact_of : {A : Type 0} → Event A → (own : Bool) → Option Fact
fact_of (LookUp k o c n s) own = looked_up o own
fact_of (Store k v o t c n s) own = stored o s
fact_of (Eviction k f t l c s) own = Some Evicted
fact_of e own = None

-- the slab class that an event says, 0 where it says none
abbrev pub class_of : {A : Type 0} → Event A → ℕ
class_of (LookUp k o c n s) = c
class_of (Store k v o t c n s) = c
class_of (Eviction k f t l c s) = c
class_of e = 0
