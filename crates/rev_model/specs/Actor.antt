-- The steps of the actors, of the clock and of the settings; and any step.
-- Rule of memcached: what the LRU maintainer, the crawler, the page mover and `lru tune` do (new_lru.txt).
-- Rule of this project: each does so in single steps, and which page, chunk or refusal it is where memcached leaves
-- that open.
use Rattle.std.specs.Prelude.{ℕ, ℤ, pos, negsuc, zero, suc, ◌+◌, Bool, false, cond, ◌&&◌, ◌||◌, List, [], ◌∷◌, ◌++◌, Option, None, Some, slice_set, nat_eq, nat_lt, nat_le, is_some}
use Rattle.std.specs.FinMap as map
use Rattle.rev_items.specs.Plain.{PlainItem}
use Rattle.rev_model.specs.Chunk.{same_chunk, same_entry}
use Rattle.rev_model.specs.Lists.{has, without, before, insert}
use Rattle.rev_model.specs.State.{State, free_of, queue_of, queue_place, owner_of, item_at, per_page, last_class}
use Rattle.rev_model.specs.Move.{with_free, with_queue, falling, is_class, names, names_other, marked}
use Rattle.rev_model.specs.declared.ClassSet.{ClassSet}
use Rattle.rev_model.specs.Words.{is_dead, queue_with, unlinked, dropped, counted, headed, with_item}
use Rattle.rev_model.specs.Pull.{pull, lowest_page}
use Rattle.rev_model.specs.Client.{ClientStep, client}
use Rattle.rev_model.specs.declared.ChunkRef.{ChunkRef}
use Rattle.rev_model.specs.declared.Entry.{Entry}
use Rattle.rev_model.specs.declared.Entry.TheVariants.{Chunk, Mark}
use Rattle.rev_model.specs.declared.Queue.{Queue}
use Rattle.rev_model.specs.declared.Queue.TheVariants.{Hot, Warm, Cold, Temp}
use Rattle.rev_model.specs.declared.Counter.TheVariants as counter
use Rattle.rev_model.specs.declared.Mover.{Mover}
use Rattle.rev_model.specs.declared.BumpEntry.{BumpEntry}
use Rattle.rev_model.specs.declared.Globals.{Globals}
use Rattle.rev_model.specs.declared.Outcome.{Outcome}
use Rattle.rev_model.specs.declared.Outcome.TheVariants as outcome
use Rattle.rev_model.specs.declared.PullMode.TheVariants.{Plain}

-- the state with these globals
abbrev pub with_globals : Globals → State → State
with_globals g s = record s { globals = g }

-- ---- clock

-- a flush is pending, and its moment is not after n
abbrev pub is_due : Option ℕ → ℕ → Bool
is_due None n = false
is_due (Some m) n = nat_le m n

-- the globals with the clock at n: a flush that is due then covers all items stored so far
abbrev pub at_clock : ℕ → Globals → Globals
at_clock n g = cond (is_due g.flush n) (record g { clock = n; flush_limit = g.last_cas; flush = None }) (record g { clock = n })

-- the clock is set, and never back
abbrev pub clock : State → ℕ → State × Outcome
clock s n = cond (nat_lt n s.globals.clock) (s, outcome.Idle) (with_globals (at_clock n s.globals) s, outcome.Okay)

-- ---- bump

-- the entry's item goes from COLD to WARM's head, where it is there, still the one, and ACTIVE
abbrev pub bump_item : ChunkRef → ℕ → Option PlainItem → State → State × Outcome
bump_item x cas None s = (s, outcome.Idle)
bump_item x cas (Some i) s = cond (nat_eq i.cas cas && (i.bits.active && has same_entry (Chunk x) (queue_of s (owner_of s x.page) Cold)))
    (counted (owner_of s x.page) counter.MovesToWarm (with_item x (record i { bits = record i.bits { active = false }; time = s.globals.clock }) (headed (owner_of s x.page) Cold Warm x s)), outcome.Moved)
    (s, outcome.Idle)

-- the first entry of the bump queue is taken out, and its item looked for
abbrev pub bump_from : State → List BumpEntry → State × Outcome
bump_from s [] = (s, outcome.Idle)
bump_from s (b ∷ bs) = bump_item b.chunk b.cas (item_at s b.chunk) (record s { bump = bs })

-- one step of the bump queue
abbrev pub bump : State → State × Outcome
bump s = bump_from s s.bump

-- ---- crawler

-- some queue of the class has a mark
abbrev pub has_mark : State → ℕ → Bool
has_mark s c = has same_entry Mark (queue_of s c Hot) || (has same_entry Mark (queue_of s c Warm) || (has same_entry Mark (queue_of s c Cold) || has same_entry Mark (queue_of s c Temp)))

-- some class below n that the set names has a mark
abbrev pub is_busy : ℕ → State → ClassSet → Bool
is_busy zero s set = false
is_busy (suc n) s set = (names s set n && has_mark s n) || is_busy n s set

-- a mark enters at the tail of the four queues of each class that is named; a number that is no class is told before
-- a mark that is there
abbrev pub crawl_start : State → ClassSet → State × Outcome
crawl_start s set = cond (names_other 64 s set) (s, outcome.BadClass) (cond (is_busy 64 s set) (s, outcome.Busy) (record s { queues = marked (names s set) 0 s.queues }, outcome.Okay))

-- the mark goes in front of the entry that it stands behind
abbrev pub passed : State → ℕ → Queue → Entry → List Entry → State
passed s c q e es = with_queue s c q (insert same_entry Mark (before same_entry e es) es)

-- a dead item is freed, and the mark stays; a live one is passed
abbrev pub crawl_item : State → ℕ → Queue → ChunkRef → Option PlainItem → State × Outcome
crawl_item s c q x None = (s, outcome.Idle)
crawl_item s c q x (Some i) = cond (is_dead s.globals i) (counted c counter.CrawlerReclaimed (dropped c q x i s), outcome.Reclaimed) (passed s c q (Chunk x) (without same_entry Mark (queue_of s c q)), outcome.Passed)

-- a mark with nothing in front of it leaves the queue; else the entry in front of it is looked at
abbrev pub crawl_entry : State → ℕ → Queue → Option Entry → State × Outcome
crawl_entry s c q None = (with_queue s c q (without same_entry Mark (queue_of s c q)), outcome.Ended)
crawl_entry s c q (Some (Chunk x)) = crawl_item s c q x (item_at s x)
crawl_entry s c q (Some Mark) = (s, outcome.Idle)

-- one step of the crawler in a queue
abbrev pub crawl : State → ℕ → Queue → State × Outcome
crawl s c q = cond (is_class s c) (cond (has same_entry Mark (queue_of s c q)) (crawl_entry s c q (before same_entry Mark (queue_of s c q))) (s, outcome.Idle)) (s, outcome.BadClass)

-- ---- page mover

-- how many pages class c owns
abbrev pub owned_pages : ℕ → List ℕ → ℕ
owned_pages c [] = 0
owned_pages c (d ∷ ds) = cond (nat_eq d c) 1 0 + owned_pages c ds

-- the page of a class that owns at least two is under way
abbrev pub scheduled : State → ℕ → ℕ → Option ℕ → State × Outcome
scheduled s src dst None = (s, outcome.NoSpare)
scheduled s src dst (Some p) = cond (nat_lt (owned_pages src s.owner) 2) (s, outcome.NoSpare) (with_globals (record s.globals { mover = Some record { src = src; dst = dst; page = p; slot = 0 } }) s, outcome.Okay)

-- a page's move begins, of the source's lowest page: one at a time, from a class to another or to the pool
abbrev pub schedule : State → ℕ → ℕ → State × Outcome
schedule s src dst = cond (is_some s.globals.mover) (s, outcome.Busy) (cond (nat_eq src dst) (s, outcome.Same) (cond (is_class s src && nat_le dst (last_class s)) (scheduled s src dst (lowest_page s src)) (s, outcome.BadClass)))

-- the first chunk that is not of the page
abbrev pub spare : ℕ → List ChunkRef → Option ChunkRef
spare p [] = None
spare p (x ∷ xs) = cond (nat_eq x.page p) (spare p xs) (Some x)

-- each x in the list becomes y
abbrev pub in_place : Entry → Entry → List Entry → List Entry
in_place x y [] = []
in_place x y (e ∷ es) = cond (same_entry x e) y e ∷ in_place x y es

-- the item of x, with its queue place and its key, goes to y
abbrev pub shifted : ℕ → Queue → ChunkRef → ChunkRef → PlainItem → State → State
shifted c q x y i s = record s {
  queues = slice_set s.queues (queue_place c q) (in_place (Chunk x) (Chunk y) (queue_of s c q));
  content = map.insert (map.remove s.content x) y i;
  index = map.insert s.index i.key y;
}

-- a live item goes to the spare chunk, and is evicted where there is none
abbrev pub rescued : State → ℕ → ChunkRef → PlainItem → Option ChunkRef → State × Outcome
rescued s c x i None = (counted c counter.Evicted (unlinked c (queue_with s c x) x i s), outcome.Evicted)
rescued s c x i (Some y) = (shifted c (queue_with s c x) x y i (with_free s c (without same_chunk y (free_of s c))), outcome.Rescued)

-- what becomes of the chunk at the mover's slot
abbrev pub cleared : State → ℕ → ChunkRef → Option PlainItem → State × Outcome
cleared s c x None = (with_free s c (without same_chunk x (free_of s c)), outcome.Withdrawn)
cleared s c x (Some i) = cond (is_dead s.globals i) (counted c counter.Reclaimed (unlinked c (queue_with s c x) x i s), outcome.Reclaimed) (rescued s c x i (spare x.page (free_of s c)))

-- the same, with the mover a slot further
abbrev pub next_slot : Mover → State × Outcome → State × Outcome
next_slot m (s, o) = (with_globals (record s.globals { mover = Some (record m { slot = m.slot + 1 }) }) s, o)

-- the page is the pool's, or the class's with its chunks in front of the free list
abbrev pub handed : Mover → State → State
handed m s = cond (nat_eq m.dst 0)
    (record s { owner = slice_set s.owner m.page 0; globals = record s.globals { mover = None } })
    (record s { owner = slice_set s.owner m.page m.dst; free = slice_set s.free m.dst (falling m.page (per_page s.fixed m.dst) ++ free_of s m.dst); globals = record s.globals { mover = None } })

-- the next slot is cleared; behind the last one the page is handed over
abbrev pub advance_of : State → Option Mover → State × Outcome
advance_of s None = (s, outcome.Idle)
advance_of s (Some m) = cond (nat_eq m.slot (per_page s.fixed m.src))
    (handed m s, outcome.Finished)
    (next_slot m (cleared s m.src record { page = m.page; slot = m.slot } (item_at s record { page = m.page; slot = m.slot })))

-- one step of the page mover
abbrev pub advance : State → State × Outcome
advance s = advance_of s s.globals.mover

-- ---- settings

-- shares and factors are set
abbrev pub tune : State → ℕ → ℕ → ℕ → ℕ → State × Outcome
tune s hot warm hot_factor warm_factor = (with_globals (record s.globals { settings = record s.globals.settings { hot_share = hot; warm_share = warm; hot_factor = hot_factor; warm_factor = warm_factor } }) s, outcome.Okay)

-- any negative bound is kept as -1
abbrev pub kept_ttl : ℤ → ℤ
kept_ttl (pos n) = pos n
kept_ttl (negsuc n) = negsuc 0

-- the bound of TEMP is set
abbrev pub temp_ttl : State → ℤ → State × Outcome
temp_ttl s n = (with_globals (record s.globals { settings = record s.globals.settings { temp_ttl = kept_ttl n } }) s, outcome.Okay)

-- ---- any step

-- a step of a client, of an actor, of the clock or of the settings
pub data Step : Type 0 where
  Client : ClientStep → Step
  Pull : ℕ → Queue → Step
  Bump : Step
  CrawlStart : ClassSet → Step
  Crawl : ℕ → Queue → Step
  Schedule : ℕ → ℕ → Step
  Advance : Step
  Clock : ℕ → Step
  Tune : ℕ → ℕ → ℕ → ℕ → Step
  TempTtl : ℤ → Step

-- one pull of a queue, by the maintainer
abbrev pub pull_step : State → ℕ → Queue → State × Outcome
pull_step s c q = cond (is_class s c) (pull s c q Plain) (s, outcome.BadClass)

-- any step
abbrev pub step : State → Step → State × Outcome
step s (Client e) = client s e
step s (Pull c q) = pull_step s c q
step s Bump = bump s
step s (CrawlStart set) = crawl_start s set
step s (Crawl c q) = crawl s c q
step s (Schedule src dst) = schedule s src dst
step s Advance = advance s
step s (Clock n) = clock s n
step s (Tune a b c d) = tune s a b c d
step s (TempTtl n) = temp_ttl s n
