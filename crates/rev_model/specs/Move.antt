-- The moves of a record on the plain state: what a move leaves, its reverse, and when it is possible.
-- Rule of this project: what is reversible, and how: a record of reverses that is played from last to first.
use Rattle.std.specs.Prelude.{ℕ, ◌≡◌, ◌+◌, ◌/◌, ◌%◌, ◌^◌, ◌<◌, nat_eq, nat_le, not, ◌&&◌, ◌||◌, Bool, true, false, cond, List, [], ◌∷◌, ◌++◌, Option, None, Some, is_some, length, slice_set, take, drop, zero, suc, map as map_list}
use Rattle.std.specs.Option.{option_map}
use Rattle.std.specs.FinMap as map
use Rattle.std.specs.declared.cmp.Ordering.{Ordering}
use Rattle.rev_items.specs.Plain.{PlainItem}
use Rattle.rev_model.specs.Chunk.{same_chunk, same_entry}
use Rattle.rev_model.specs.Lists.{has, without, before, insert, has_after}
use Rattle.rev_model.specs.State.{State, Contents, Keys, WellFormed, IsChunkOf, free_of, queue_of, queue_place, counter_of, counter_place, owner_of, item_at, find, per_page, stands, last_class}
use Rattle.rev_model.specs.declared.ChunkRef.{ChunkRef}
use Rattle.rev_model.specs.declared.Entry.{Entry}
use Rattle.rev_model.specs.declared.Entry.TheVariants.{Chunk, Mark}
use Rattle.rev_model.specs.declared.Queue.{Queue}
use Rattle.rev_model.specs.declared.ClassSet.{ClassSet}
use Rattle.rev_model.specs.declared.ClassSet.TheVariants.{All, These}
use Rattle.rev_model.specs.declared.Counter.{Counter}
use Rattle.rev_model.specs.declared.BumpEntry.{BumpEntry}
use Rattle.rev_model.specs.declared.Globals.{Globals}
use Rattle.rev_model.specs.declared.GlobalPart.{GlobalPart}
use Rattle.rev_model.specs.declared.GlobalPart.TheVariants.{LastCas, Timing, Mover, Settings}
use Rattle.rev_model.specs.declared.Touched.{Touched}
use Rattle.rev_model.specs.declared.Form.{Form}
use Rattle.rev_model.specs.declared.Form.TheVariants.{Fresh, Pool, Withdrawn}
use Rattle.rev_model.specs.declared.Listed.{Listed}
use Rattle.rev_model.specs.declared.Listed.TheVariants.{InFree, InQueue}
use Rattle.rev_model.specs.declared.Placed.{Placed}
use Rattle.rev_model.specs.declared.Placed.TheVariants.{ToFree, ToQueue}

-- a move, with plain items and with the number of slots in place of a page's parts
pub data Move : Type 0 where
  Takes : Listed → Move
  Puts : Placed → Move
  Fills : ChunkRef → Option PlainItem → Move
  Touches : ChunkRef → Touched → Move
  Binds : ChunkRef → Move
  Unbinds : ChunkRef → Move
  Lays : ℕ → ℕ → ℕ → Form → Move
  Lifts : ℕ → Form → Move
  Counts : ℕ → Counter → ℕ → Move
  Sets : GlobalPart → Move
  BumpsIn : BumpEntry → Move
  BumpsBack : Move
  BumpsOut : Move
  BumpsFront : BumpEntry → Move
  Shifts : ChunkRef → ChunkRef → Move
  MarksIn : ClassSet → Move
  MarksOut : ClassSet → Move

-- the state with this free list of class c
abbrev pub with_free : State → ℕ → List ChunkRef → State
with_free s c l = record s { free = slice_set s.free c l }

-- the state with this queue of class c
abbrev pub with_queue : State → ℕ → Queue → List Entry → State
with_queue s c q l = record s { queues = slice_set s.queues (queue_place c q) l }

-- the map with this at the key, or with nothing there
abbrev pub put_at : {K X : Type 0} {R : K → K → Ordering} → map.FinMap R X → K → Option X → map.FinMap R X
put_at m k None = map.remove m k
put_at m k (Some x) = map.insert m k x

-- the item with these bits, time and moment
abbrev pub touched : Touched → PlainItem → PlainItem
touched t i = record i { bits = t.bits; time = t.time; moment = t.moment }

-- the item's bits, time and moment
abbrev pub touched_of : PlainItem → Touched
touched_of i = record { bits = i.bits; time = i.time; moment = i.moment }

-- what an item's key, if there is one, makes of the state
abbrev pub bound : ChunkRef → Option PlainItem → State → State
bound x None s = s
bound x (Some i) s = record s { index = map.insert s.index i.key x }

-- the state without the key of the item
abbrev pub unbound : Option PlainItem → State → State
unbound None s = s
unbound (Some i) s = record s { index = map.remove s.index i.key }

-- without the last
abbrev pub front {ℓ} : {X : Type ℓ} → List X → List X
front [] = []
front (x ∷ []) = []
front (x ∷ y ∷ ys) = x ∷ front (y ∷ ys)

-- the last, d where there is none
abbrev pub last_or {ℓ} : {X : Type ℓ} → X → List X → X
last_or d [] = d
last_or d (x ∷ xs) = last_or x xs

-- the chunks of a page, the highest slot in front
abbrev pub falling : ℕ → ℕ → List ChunkRef
falling p zero = []
falling p (suc n) = record { page = p; slot = n } ∷ falling p n

-- page p gets class c and n chunks, by its form
abbrev pub laid : ℕ → ℕ → ℕ → Form → State → State
laid p c n Fresh s = record s { owner = s.owner ++ c ∷ []; free = slice_set s.free c (falling p n ++ free_of s c) }
laid p c n Pool s = record s { owner = slice_set s.owner p c; free = slice_set s.free c (falling p n ++ free_of s c) }
laid p c n Withdrawn s = record s { owner = slice_set s.owner p c }

-- page p of class c loses its n chunks, by its form
abbrev pub lifted : ℕ → ℕ → ℕ → Form → State → State
lifted p c n Fresh s = record s { owner = front s.owner; free = slice_set s.free c (drop n (free_of s c)) }
lifted p c n Pool s = record s { owner = slice_set s.owner p 0; free = slice_set s.free c (drop n (free_of s c)) }
lifted p c n Withdrawn s = record s { owner = slice_set s.owner p 0 }

-- what puts back the front entry of the bump queue, which was taken out
abbrev pub out_of : List BumpEntry → Move
out_of [] = BumpsOut
out_of (b ∷ bs) = BumpsFront b

-- what puts back the last entry of the bump queue, which was taken out
abbrev pub back_of : List BumpEntry → Move
back_of [] = BumpsBack
back_of (b ∷ bs) = BumpsIn (last_or b bs)

-- the bits, time and moment that the item had
abbrev pub retouched : Touched → Option PlainItem → Touched
retouched t None = t
retouched t (Some i) = touched_of i

-- the globals with this part
abbrev pub with_part : GlobalPart → Globals → Globals
with_part (LastCas n) g = record g { last_cas = n }
with_part (Timing t) g = record g { clock = t.clock; flush_limit = t.flush_limit; flush = t.flush }
with_part (Mover m) g = record g { mover = m }
with_part (Settings w) g = record g { settings = w }

-- the same part, as the globals have it
abbrev pub part_like : GlobalPart → Globals → GlobalPart
part_like (LastCas n) g = LastCas g.last_cas
part_like (Timing t) g = Timing record { clock = g.clock; flush_limit = g.flush_limit; flush = g.flush }
part_like (Mover m) g = Mover g.mover
part_like (Settings w) g = Settings g.settings

-- an entry takes the place of another
abbrev pub exchanged : Entry → Entry → List Entry → List Entry
exchanged x y [] = []
exchanged x y (e ∷ es) = cond (same_entry x e) y e ∷ exchanged x y es

-- an item goes to an empty chunk
abbrev pub carried : Contents → ChunkRef → ChunkRef → Contents
carried m x y = put_at (put_at m x None) y (map.get m x)

-- the key of the item, if there is one, leads to the chunk
abbrev pub rebound : ChunkRef → Option PlainItem → Keys → Keys
rebound b None m = m
rebound b (Some i) m = map.insert m i.key b

-- the item of a, its queue place and its index entry go to b
abbrev pub shifted : ChunkRef → ChunkRef → State → State
shifted a b s = record s { queues = map_list (exchanged (Chunk a) (Chunk b)) s.queues; content = carried s.content a b; index = rebound b (item_at s a) s.index }

-- a class from 1 to the last
abbrev pub is_class : State → ℕ → Bool
is_class s c = not (nat_eq c 0) && nat_le c (last_class s)

-- bit c of a set of classes
abbrev pub has_bit : ℕ → ℕ → Bool
has_bit bits c = nat_eq ((bits / 2 ^ c) % 2) 1

-- the set names class c
abbrev pub names : State → ClassSet → ℕ → Bool
names s All c = is_class s c
names s (These bits) c = has_bit bits c

-- some number below n that is no class is named
abbrev pub names_other : ℕ → State → ClassSet → Bool
names_other zero s set = false
names_other (suc n) s set = (names s set n && not (is_class s n)) || names_other n s set

-- `named` says which classes: a mark enters at the tail of the four queues of each, where p is the place of the first
-- queue
abbrev pub marked : (ℕ → Bool) → ℕ → List (List Entry) → List (List Entry)
marked named p [] = []
marked named p (l ∷ ls) = cond (named (p / 4)) (l ++ Mark ∷ []) l ∷ marked named (suc p) ls

-- the same queues lose their last entry, which is the mark
abbrev pub unmarked : (ℕ → Bool) → ℕ → List (List Entry) → List (List Entry)
unmarked named p [] = []
unmarked named p (l ∷ ls) = cond (named (p / 4)) (front l) l ∷ unmarked named (suc p) ls

-- no such queue has a mark
abbrev pub NoMarks : (ℕ → Bool) → ℕ → List (List Entry) → Type 0
NoMarks named p [] = Unit {0}
NoMarks named p (l ∷ ls) = (named (p / 4) ≡ true → has same_entry Mark l ≡ false) × NoMarks named (suc p) ls

-- each ends in one
abbrev pub EndMarks : (ℕ → Bool) → ℕ → List (List Entry) → Type 0
EndMarks named p [] = Unit {0}
EndMarks named p (l ∷ ls) = (named (p / 4) ≡ true → front l ++ Mark ∷ [] ≡ l) × EndMarks named (suc p) ls

-- the state that a move leaves
abbrev pub moved : Move → State → State
moved (Takes (InFree c x)) s = with_free s c (without same_chunk x (free_of s c))
moved (Takes (InQueue c q e)) s = with_queue s c q (without same_entry e (queue_of s c q))
moved (Puts (ToFree c x a)) s = with_free s c (insert same_chunk x a (free_of s c))
moved (Puts (ToQueue c q e a)) s = with_queue s c q (insert same_entry e a (queue_of s c q))
moved (Fills x o) s = record s { content = put_at s.content x o }
moved (Touches x t) s = record s { content = put_at s.content x (option_map (touched t) (item_at s x)) }
moved (Binds x) s = bound x (item_at s x) s
moved (Unbinds x) s = unbound (item_at s x) s
moved (Lays p c n f) s = laid p c n f s
moved (Lifts p f) s = lifted p (owner_of s p) (per_page s.fixed (owner_of s p)) f s
moved (Counts c k v) s = record s { counters = slice_set s.counters (counter_place c k) v }
moved (Sets p) s = record s { globals = with_part p s.globals }
moved (BumpsIn b) s = record s { bump = s.bump ++ b ∷ [] }
moved BumpsBack s = record s { bump = front s.bump }
moved BumpsOut s = record s { bump = drop 1 s.bump }
moved (BumpsFront b) s = record s { bump = b ∷ s.bump }
moved (Shifts a b) s = shifted a b s
moved (MarksIn set) s = record s { queues = marked (names s set) 0 s.queues }
moved (MarksOut set) s = record s { queues = unmarked (names s set) 0 s.queues }

-- the move that undoes it, read off the state before it
abbrev pub reverse : Move → State → Move
reverse (Takes (InFree c x)) s = Puts (ToFree c x (before same_chunk x (free_of s c)))
reverse (Takes (InQueue c q e)) s = Puts (ToQueue c q e (before same_entry e (queue_of s c q)))
reverse (Puts (ToFree c x a)) s = Takes (InFree c x)
reverse (Puts (ToQueue c q e a)) s = Takes (InQueue c q e)
reverse (Fills x o) s = Fills x (item_at s x)
reverse (Touches x t) s = Touches x (retouched t (item_at s x))
reverse (Binds x) s = Unbinds x
reverse (Unbinds x) s = Binds x
reverse (Lays p c n f) s = Lifts p f
reverse (Lifts p f) s = Lays p (owner_of s p) (per_page s.fixed (owner_of s p)) f
reverse (Counts c k v) s = Counts c k (counter_of s c k)
reverse (Sets p) s = Sets (part_like p s.globals)
reverse (BumpsIn b) s = BumpsBack
reverse BumpsBack s = back_of s.bump
reverse BumpsOut s = out_of s.bump
reverse (BumpsFront b) s = BumpsOut
reverse (Shifts a b) s = Shifts b a
reverse (MarksIn set) s = MarksOut set
reverse (MarksOut set) s = MarksIn set

-- a chunk that enters a list is in none, and a mark that enters a queue is not in it
abbrev pub MayEnter : State → ℕ → Queue → Entry → Type 0
MayEnter s c q (Chunk x) = stands s x ≡ 0
MayEnter s c q Mark = has same_entry Mark (queue_of s c q) ≡ false

-- no chunk of the page holds an item
abbrev pub HoldsNoItem : State → ℕ → Type 0
HoldsNoItem s p = (x : ChunkRef) → x.page ≡ p → item_at s x ≡ None

-- a fresh page is the next one; of the others the page is there and in the pool
abbrev pub PageReady : ℕ → Form → State → Type 0
PageReady p Fresh s = p ≡ length s.owner
PageReady p Pool s = (p < length s.owner) × (owner_of s p ≡ 0)
PageReady p Withdrawn s = (p < length s.owner) × (owner_of s p ≡ 0)

-- the page's chunks stand in front of the free list, as Lay put them
abbrev pub LiftReady : ℕ → ℕ → ℕ → Form → State → Type 0
LiftReady p c n Fresh s = (p + 1 ≡ length s.owner) × (take n (free_of s c) ≡ falling p n)
LiftReady p c n Pool s = (p < length s.owner) × (take n (free_of s c) ≡ falling p n)
LiftReady p c n Withdrawn s = p < length s.owner

-- the chunk stands in a queue
abbrev pub StandsInQueue : State → ChunkRef → Type 0
StandsInQueue s x = (c : ℕ) × (q : Queue) × (has same_entry (Chunk x) (queue_of s c q) ≡ true)

-- what a move takes or exchanges is there, and what it puts is not
abbrev pub Ready : Move → State → Type 0
Ready (Takes (InFree c x)) s = (c < length s.free) × (has same_chunk x (free_of s c) ≡ true)
Ready (Takes (InQueue c q e)) s = (queue_place c q < length s.queues) × (has same_entry e (queue_of s c q) ≡ true)
Ready (Puts (ToFree c x a)) s = (c < length s.free) × (stands s x ≡ 0) × (has_after same_chunk a (free_of s c) ≡ true)
Ready (Puts (ToQueue c q e a)) s = (queue_place c q < length s.queues) × MayEnter s c q e × (has_after same_entry a (queue_of s c q) ≡ true)
Ready (Fills x o) s = IsChunkOf s.fixed s.owner (owner_of s x.page) x × (stands s x ≡ 0)
Ready (Touches x t) s = is_some (item_at s x) ≡ true
Ready (Binds x) s = (i : PlainItem) × (item_at s x ≡ Some i) × (find s i.key ≡ None)
Ready (Unbinds x) s = (i : PlainItem) × (item_at s x ≡ Some i) × (find s i.key ≡ Some x)
Ready (Lays p c n f) s = PageReady p f s × (0 < c) × (c < length s.free) × (n ≡ per_page s.fixed c) × HoldsNoItem s p
Ready (Lifts p f) s = LiftReady p (owner_of s p) (per_page s.fixed (owner_of s p)) f s × (0 < owner_of s p) × (owner_of s p < length s.free) × HoldsNoItem s p
Ready (Counts c k v) s = counter_place c k < length s.counters
Ready (Sets p) s = Unit {0}
Ready (BumpsIn b) s = Unit {0}
Ready BumpsBack s = 0 < length s.bump
Ready BumpsOut s = 0 < length s.bump
Ready (BumpsFront b) s = Unit {0}
Ready (Shifts a b) s = (i : PlainItem) × (item_at s a ≡ Some i) × (find s i.key ≡ Some a) × (item_at s b ≡ None) × (stands s b ≡ 0) × StandsInQueue s a
Ready (MarksIn set) s = (names_other 64 s set ≡ false) × NoMarks (names s set) 0 s.queues
Ready (MarksOut set) s = (names_other 64 s set ≡ false) × EndMarks (names s set) 0 s.queues

-- a move is possible: it is ready, and the state after it is well formed
pub record Possible (m : Move) (s : State) : Type 0 where
  pub ready : Ready m s
  pub after : WellFormed (moved m s)

-- what playing a list of moves from last to first leaves: the state, and the reverses in the order made
abbrev pub turned : List Move → State → State × List Move
turned [] s = (s, [])
turned (m ∷ ms) s = (moved m (turned ms s).0, (turned ms s).1 ++ reverse m (turned ms s).0 ∷ [])

-- each move is possible in its turn
abbrev pub Fits : List Move → State → Type 0
Fits [] s = Unit {0}
Fits (m ∷ ms) s = Fits ms s × Possible m (turned ms s).0

-- The record fits, and turning it leads back to the first state: what each step keeps of its record.
pub record LeadsBack (ms : List Move) (s : State) (first : State) : Type 0 where
  pub fits : Fits ms s
  pub there : (turned ms s).0 ≡ first
