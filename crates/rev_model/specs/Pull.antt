-- Pull and room.
-- Rule of memcached: which item of a queue goes where when it is pulled, and how a chunk is found for a new item
-- (new_lru.txt).
-- Rule of this project: ten rounds, and the lowest page first.
use Rattle.std.specs.Prelude.{ℕ, zero, suc, ◌+◌, Bool, true, false, cond, not, ◌||◌, List, [], ◌∷◌, Option, None, Some, length, nat_eq, nat_lt}
use Rattle.std.specs.List.{list_any}
use Rattle.rev_items.specs.Plain.{PlainItem}
use Rattle.rev_model.specs.State.{State, free_of, queue_of, item_at, per_page}
use Rattle.rev_model.specs.Move.{laid, with_free}
use Rattle.rev_model.specs.Words.{is_dead, tail, over, idle, dropped, counted, headed, with_item, inactive}
use Rattle.rev_model.specs.declared.ChunkRef.{ChunkRef}
use Rattle.rev_model.specs.declared.Queue.{Queue}
use Rattle.rev_model.specs.declared.Queue.TheVariants.{Hot, Warm, Cold, Temp}
use Rattle.rev_model.specs.declared.Counter.{Counter}
use Rattle.rev_model.specs.declared.Counter.TheVariants as counter
use Rattle.rev_model.specs.declared.Form.{Form}
use Rattle.rev_model.specs.declared.Form.TheVariants.{Fresh, Pool}
use Rattle.rev_model.specs.declared.Outcome.{Outcome}
use Rattle.rev_model.specs.declared.Outcome.TheVariants.{Idle, Moved, Reclaimed, Evicted}
use Rattle.rev_model.specs.declared.PullMode.{PullMode}
use Rattle.rev_model.specs.declared.PullMode.TheVariants.{Plain, Evicting, ShareZero}

-- whether a live item of COLD is evicted
abbrev pub evicts : PullMode → Bool
evicts Plain = false
evicts Evicting = true
evicts ShareZero = false

-- whether HOT is pulled as if its share were 0
abbrev pub takes_all : PullMode → Bool
takes_all Plain = false
takes_all Evicting = false
takes_all ShareZero = true

-- ACTIVE is cleared and the item goes to WARM's head
abbrev pub warmed : ℕ → Queue → Counter → ChunkRef → PlainItem → State → State
warmed c q k x i s = counted c k (with_item x (inactive i) (headed c q Warm x s))

-- the item goes to COLD's head
abbrev pub cooled : ℕ → Queue → ChunkRef → State → State
cooled c q x s = counted c counter.MovesToCold (headed c q Cold x s)

-- what is pulled: the item alive, by its queue
abbrev pub pull_live : State → ℕ → Queue → PullMode → ChunkRef → PlainItem → State × Outcome
pull_live s c Hot m x i = cond i.bits.active (warmed c Hot counter.MovesToWarm x i s, Moved) (cond (takes_all m || (over s c Hot || idle s c Hot i)) (cooled c Hot x s, Moved) (s, Idle))
pull_live s c Warm m x i = cond i.bits.active (warmed c Warm counter.MovesWithinLru x i s, Moved) (cond (over s c Warm || idle s c Warm i) (cooled c Warm x s, Moved) (s, Idle))
pull_live s c Cold m x i = cond (evicts m) (counted c counter.Evicted (dropped c Cold x i s), Evicted) (cond i.bits.active (warmed c Cold counter.MovesToWarm x i s, Moved) (s, Idle))
pull_live s c Temp m x i = (s, Idle)

-- a dead item is reclaimed
abbrev pub pull_item : State → ℕ → Queue → PullMode → ChunkRef → Option PlainItem → State × Outcome
pull_item s c q m x None = (s, Idle)
pull_item s c q m x (Some i) = cond (is_dead s.globals i) (counted c counter.Reclaimed (dropped c q x i s), Reclaimed) (pull_live s c q m x i)

-- by the chunk that is looked at
abbrev pub pull_tail : State → ℕ → Queue → PullMode → Option ChunkRef → State × Outcome
pull_tail s c q m None = (s, Idle)
pull_tail s c q m (Some x) = pull_item s c q m x (item_at s x)

-- one pull looks at the last entry that is no mark
abbrev pub pull : State → ℕ → Queue → PullMode → State × Outcome
pull s c q m = pull_tail s c q m (tail (queue_of s c q))

-- ---- room: at most ten rounds, each of which takes a chunk, or gets a page, or pulls

-- the lowest page of this owner
abbrev pub page_from : ℕ → ℕ → List ℕ → Option ℕ
page_from p c [] = None
page_from p c (d ∷ ds) = cond (nat_eq d c) (Some p) (page_from (p + 1) c ds)

-- the lowest page of class c, or of the pool, which is 0
abbrev pub lowest_page : State → ℕ → Option ℕ
lowest_page s c = page_from 0 c s.owner

-- some page is of class c
abbrev pub owns_page : State → ℕ → Bool
owns_page s c = list_any (λ d. nat_eq d c) s.owner

-- a page for a class: the lowest of the pool, else a new one within the limit or for a class that owns none
abbrev pub page_for : State → ℕ → Option ℕ → Option (ℕ × Form)
page_for s c (Some p) = Some (p, Pool)
page_for s c None = cond (nat_lt (length s.owner) s.fixed.limit || not (owns_page s c)) (Some (length s.owner, Fresh)) None

-- the page that class c gets, and how it is laid
abbrev pub page_of : State → ℕ → Option (ℕ × Form)
page_of s c = page_for s c (lowest_page s 0)

-- the first free chunk, taken out
abbrev pub fronted : State → ℕ → List ChunkRef → Option (State × ChunkRef)
fronted s c [] = None
fronted s c (x ∷ xs) = Some (with_free s c xs, x)

-- the state with that page laid
abbrev pub carved : State → ℕ → Option (ℕ × Form) → State
carved s c None = s
carved s c (Some (p, f)) = laid p c (per_page s.fixed c) f s

-- this chunk, or the first of a new page
abbrev pub or_carved : State → ℕ → Option (State × ChunkRef) → Option (State × ChunkRef)
or_carved s c (Some r) = Some r
or_carved s c None = fronted (carved s c (page_of s c)) c (free_of (carved s c (page_of s c)) c)

-- the front free chunk, or that of a page that the class gets
abbrev pub given : State → ℕ → Option (State × ChunkRef)
given s c = or_carved s c (fronted s c (free_of s c))

-- what the pull of a round leaves
abbrev pub squeezed_by : State → ℕ → Option ChunkRef → State
squeezed_by s c (Some x) = (pull s c Cold Evicting).0
squeezed_by s c None = (pull s c Hot ShareZero).0

-- COLD is pulled with eviction, and where it holds no item HOT with a share of 0
abbrev pub squeezed : State → ℕ → State
squeezed s c = squeezed_by s c (tail (queue_of s c Cold))

-- this chunk, or what comes later
abbrev pub taken_or : Option (State × ChunkRef) → State × Option ChunkRef → State × Option ChunkRef
taken_or (Some (t, x)) later = (t, Some x)
taken_or None later = later

-- at most so many rounds; behind the last one memory is counted as wanting
abbrev pub room_by : ℕ → State → ℕ → State × Option ChunkRef
room_by zero s c = (counted c counter.OutOfMemory s, None)
room_by (suc k) s c = taken_or (given s c) (room_by k (squeezed s c) c)

-- ten rounds
abbrev pub room : State → ℕ → State × Option ChunkRef
room s c = room_by 10 s c
