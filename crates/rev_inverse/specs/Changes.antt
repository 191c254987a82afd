-- What an entry that leaves its queue stood behind, and which changes carry more than numbers, kind by kind.
-- Rule of this project: what each kind of change exchanges with the store.
use Rattle.std.specs.Prelude.{Option, None}
use Rattle.rev_model.specs.declared.Entry.{Entry}
use Rattle.rev_model.specs.declared.Placed.{Placed}
use Rattle.rev_model.specs.declared.Placed.TheVariants.{ToFree, ToQueue}
use Rattle.rev_inverse.specs.declared.changes.Change.{Change}
use Rattle.rev_inverse.specs.declared.changes.Change.TheVariants.{Enter, Leave, Link, Unlink, Revive, Free, Lay, Lift}

-- what the entry goes behind, where it enters a queue
abbrev pub ahead_of : Placed → Option Entry
ahead_of (ToFree c x a) = None
ahead_of (ToQueue c q e a) = a

-- an item enters
abbrev pub Enters : {A : Type 0} → Change A → Type 0
Enters (Enter c i a x n q) = Unit {0}
Enters m = ⊥

-- an item leaves
abbrev pub Leaves : {A : Type 0} → Change A → Type 0
Leaves (Leave c o x n q) = Unit {0}
Leaves m = ⊥

-- a new item enters, and its cas number is the last
abbrev pub Links : {A : Type 0} → Change A → Type 0
Links (Link q c x i a n) = Unit {0}
Links m = ⊥

-- the last cas number is what it was, and the item leaves
abbrev pub Unlinks : {A : Type 0} → Change A → Type 0
Unlinks (Unlink q c x o n) = Unit {0}
Unlinks m = ⊥

-- a free chunk gets an item
abbrev pub Revives : {A : Type 0} → Change A → Type 0
Revives (Revive q n x c i a) = Unit {0}
Revives m = ⊥

-- an item leaves, and its chunk is free
abbrev pub Frees : {A : Type 0} → Change A → Type 0
Frees (Free q n x c b) = Unit {0}
Frees m = ⊥

-- a page gets a class and slots
abbrev pub Lays : {A : Type 0} → Change A → Type 0
Lays (Lay p c n f) = Unit {0}
Lays m = ⊥

-- a page loses them
abbrev pub Lifts : {A : Type 0} → Change A → Type 0
Lifts (Lift p f h) = Unit {0}
Lifts m = ⊥
