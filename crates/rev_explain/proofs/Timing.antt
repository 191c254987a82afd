-- What steps, and the changes of a record, do to the clock.
use Rattle.std.specs.Prelude.{ℕ, ℤ, ◌≡◌, ◌+◌, ◌-◌, ◌<◌, ◌≤◌, ◌⊎◌, Bool, true, false, cond, ◌&&◌, ◌||◌, List, [], ◌∷◌, ◌++◌, Option, None, Some, length, drop, slice_index_or, slice_set, nat_eq, nat_le, nat_lt, is_some, IsTrue, reverse, take, refl}
use Rattle.std.proofs.Common.{sym, ◌∙◌, ap, arith, subst, inl, inr, zero, suc}
use Rattle.std.proofs.lemmas.Bool.{eqb-true, lt-ltb, le-ltb, le-leb}
use Rattle.std.proofs.lemmas.Bool.Decides.{leb_tells}
use Rattle.std.proofs.lemmas.List.{drop_all, reverse-append}
use Rattle.std.proofs.Math.Seq.{take-append_seam}
use Rattle.std.specs.Fmt.{decimal}
use Rattle.rev_items.specs.Plain.{PlainItem}
use Rattle.rev_items.specs.Rules.{moment}
use Rattle.rev_model.specs.Chunk.{same_entry}
use Rattle.rev_model.specs.Lists.{has, before, without}
use Rattle.rev_model.specs.State.{State, item_at, find, owner_of, queue_of, free_of, per_page, last_class}
use Rattle.rev_model.specs.Words.{is_dead, tail, over, idle, dropped, counted, headed, with_item, queue_with, unlinked}
use Rattle.rev_model.specs.Pull.{evicts, takes_all, warmed, cooled, pull, pull_tail, pull_item, pull_live, page_of, fronted, carved, or_carved, given, squeezed, squeezed_by, taken_or, room_by, room, lowest_page}
use Rattle.rev_model.specs.Client.{ClientStep, Stores, Joins, Gets, Touches, Deletes, Evicts, Flushes, Counts, Verb, Sets, Adds, Replaces, Cases, Side, Sum, Payload, Bytes, bytes_of, looked_item, looked_at, lookup, item_led_to, removed, hit, hit_again, class_for, joined, is_number, digits_from, summed, refusal, failed, settled_by, stored_room, stored_class, rewritten_old, rewritten_room, rewritten_class, rewritten, join_found, count_as, count_found, get_found, until, touch_found, delete_found, evict_found, flush_at, flush_moment, client}
use Rattle.rev_model.specs.Actor.{Step, Client, Pull, Bump, CrawlStart, Crawl, Schedule, Advance, Clock, Tune, TempTtl, step, bump_item, bump_from, is_busy, passed, crawl_item, crawl_entry, owned_pages, scheduled, spare, rescued, cleared, next_slot, handed, advance_of, with_globals, at_clock, is_due}
use Rattle.rev_model.specs.Move as moves
use Rattle.rev_model.specs.Move.{Move, moved, turned, is_class, names, names_other, marked, falling, laid, lifted, bound, unbound}
use Rattle.rev_model.specs.declared.GlobalPart.TheVariants as part
use Rattle.rev_model.specs.declared.ChunkRef.{ChunkRef}
use Rattle.rev_model.specs.declared.Entry.{Entry}
use Rattle.rev_model.specs.declared.Entry.TheVariants.{Chunk, Mark}
use Rattle.rev_model.specs.declared.BumpEntry.{BumpEntry}
use Rattle.rev_model.specs.declared.Counter.TheVariants as counter
use Rattle.rev_model.specs.declared.Form.{Form}
use Rattle.rev_model.specs.declared.Form.TheVariants.{Fresh, Pool, Withdrawn}
use Rattle.rev_model.specs.declared.Listed.{Listed}
use Rattle.rev_model.specs.declared.Listed.TheVariants.{InFree, InQueue}
use Rattle.rev_model.specs.declared.Placed.{Placed}
use Rattle.rev_model.specs.declared.Placed.TheVariants.{ToFree, ToQueue}
use Rattle.rev_model.specs.declared.Mover.{Mover}
use Rattle.rev_model.specs.declared.Outcome.{Outcome}
use Rattle.rev_model.specs.declared.Outcome.TheVariants as outcome
use Rattle.rev_model.specs.declared.PullMode.{PullMode}
use Rattle.rev_model.specs.declared.PullMode.TheVariants.{Plain, Evicting, ShareZero}
use Rattle.rev_model.specs.declared.Queue.{Queue}
use Rattle.rev_model.specs.declared.Queue.TheVariants.{Hot, Warm, Cold, Temp}
use Rattle.rev_inverse.specs.Record.{PlainChange, PlainRecord, IsWhole, moves_in}
use Rattle.rev_tree.specs.Steps.{next, outcome_of}
use Rattle.rev_tree.specs.Rows.{Row, RowsFall, row_of, state_from, at_within, at}
use Rattle.rev_tree.proofs.Rows.{at-step}
use Rattle.rev_tree.specs.Machine.{nodes_from, lineage_within, lineage}
use Rattle.rev_tree.specs.Positions.{SessionState}
use Rattle.rev_tree.specs.Trails.{Trailed}
use Rattle.rev_explain.specs.Readings.{clock_through}
use Rattle.rev_explain.specs.Clocks.{later, time_set, clock_set, clock_at, Clocked, last_by, node_by}
use Rattle.rev_explain.proofs.MoveLaws.{drop_at}
use Rattle.rev_explain.proofs.Climbs.{Climbs, climb_starts, climb_to, climb_within, climbs, node_state, node_is, row_is, lineage_above}

-- ---- a step: all but one of the clock leave the clock as it is

abbrev Keeps : State → State → Type 0
Keeps s t = t.globals.clock ≡ s.globals.clock

-- either of two
either : {X : Type 0} (s : State) (b : Bool) (p q : State × X) → Keeps s p.0 → Keeps s q.0 → Keeps s (cond b p q).0
either s true p q h g = h
either s false p q h g = g

either_state : (s : State) (b : Bool) (p q : State) → Keeps s p → Keeps s q → Keeps s (cond b p q)
either_state s true p q h g = h
either_state s false p q h g = g

live_keeps : (s : State) (c : ℕ) (q : Queue) (m : PullMode) (x : ChunkRef) (i : PlainItem) → Keeps s (pull_live s c q m x i).0
live_keeps s c Hot m x i =
    either s i.bits.active (warmed c Hot counter.MovesToWarm x i s, outcome.Moved) (cond (takes_all m || (over s c Hot || idle s c Hot i)) (cooled c Hot x s, outcome.Moved) (s, outcome.Idle)) refl
    (either s (takes_all m || (over s c Hot || idle s c Hot i)) (cooled c Hot x s, outcome.Moved) (s, outcome.Idle) refl refl)
live_keeps s c Warm m x i =
    either s i.bits.active (warmed c Warm counter.MovesWithinLru x i s, outcome.Moved) (cond (over s c Warm || idle s c Warm i) (cooled c Warm x s, outcome.Moved) (s, outcome.Idle)) refl
    (either s (over s c Warm || idle s c Warm i) (cooled c Warm x s, outcome.Moved) (s, outcome.Idle) refl refl)
live_keeps s c Cold m x i =
    either s (evicts m) (counted c counter.Evicted (dropped c Cold x i s), outcome.Evicted) (cond i.bits.active (warmed c Cold counter.MovesToWarm x i s, outcome.Moved) (s, outcome.Idle)) refl
    (either s i.bits.active (warmed c Cold counter.MovesToWarm x i s, outcome.Moved) (s, outcome.Idle) refl refl)
live_keeps s c Temp m x i = refl

item_keeps : (s : State) (c : ℕ) (q : Queue) (m : PullMode) (x : ChunkRef) (o : Option PlainItem) → Keeps s (pull_item s c q m x o).0
item_keeps s c q m x None = refl
item_keeps s c q m x (Some i) = either s (is_dead s.globals i) (counted c counter.Reclaimed (dropped c q x i s), outcome.Reclaimed) (pull_live s c q m x i) refl (live_keeps s c q m x i)

tail_keeps : (s : State) (c : ℕ) (q : Queue) (m : PullMode) (o : Option ChunkRef) → Keeps s (pull_tail s c q m o).0
tail_keeps s c q m None = refl
tail_keeps s c q m (Some x) = item_keeps s c q m x (item_at s x)

pull_keeps : (s : State) (c : ℕ) (q : Queue) (m : PullMode) → Keeps s (pull s c q m).0
pull_keeps s c q m = tail_keeps s c q m (tail (queue_of s c q))

squeeze_keeps : (s : State) (c : ℕ) (o : Option ChunkRef) → Keeps s (squeezed_by s c o)
squeeze_keeps s c None = pull_keeps s c Hot ShareZero
squeeze_keeps s c (Some x) = pull_keeps s c Cold Evicting

-- of a chunk that may be had
abbrev KeepsAny : State → Option (State × ChunkRef) → Type 0
KeepsAny s None = Unit {0}
KeepsAny s (Some r) = Keeps s r.0

front_keeps : (s u : State) (c : ℕ) (l : List ChunkRef) → Keeps s u → KeepsAny s (fronted u c l)
front_keeps s u c [] h = tt
front_keeps s u c (x ∷ xs) h = h

carved_keeps : (s : State) (c : ℕ) (o : Option (ℕ × Form)) → Keeps s (carved s c o)
carved_keeps s c None = refl
carved_keeps s c (Some (p, Fresh)) = refl
carved_keeps s c (Some (p, Pool)) = refl
carved_keeps s c (Some (p, Withdrawn)) = refl

or_carved_keeps : (s : State) (c : ℕ) (o : Option (State × ChunkRef)) → KeepsAny s o → KeepsAny s (or_carved s c o)
or_carved_keeps s c (Some r) h = h
or_carved_keeps s c None h = front_keeps s (carved s c (page_of s c)) c (free_of (carved s c (page_of s c)) c) (carved_keeps s c (page_of s c))

given_keeps : (s : State) (c : ℕ) → KeepsAny s (given s c)
given_keeps s c = or_carved_keeps s c (fronted s c (free_of s c)) (front_keeps s s c (free_of s c) refl)

taken_keeps : (s : State) (o : Option (State × ChunkRef)) (r : State × Option ChunkRef) → KeepsAny s o → Keeps s r.0 → Keeps s (taken_or o r).0
taken_keeps s None r h g = g
taken_keeps s (Some (t, x)) r h g = h

rounds_keep : (n : ℕ) (s : State) (c : ℕ) → Keeps s (room_by n s c).0
rounds_keep zero s c = refl
rounds_keep (suc n) s c = taken_keeps s (given s c) (room_by n (squeezed s c) c) (given_keeps s c) (rounds_keep n (squeezed s c) c ∙ squeeze_keeps s c (tail (queue_of s c Cold)))

room_keeps : (s : State) (c : ℕ) → Keeps s (room s c).0
room_keeps s c = rounds_keep 10 s c

-- lookups, and what is found leaves
looked_keeps : (s : State) (x : ChunkRef) (o : Option PlainItem) → Keeps s (looked_item s x o).0
looked_keeps s x None = refl
looked_keeps s x (Some i) = either s (is_dead s.globals i) (dropped (owner_of s x.page) (queue_with s (owner_of s x.page) x) x i s, None) (s, Some (x, i)) refl refl

look_keeps_at : (s : State) (o : Option ChunkRef) → Keeps s (looked_at s o).0
look_keeps_at s None = refl
look_keeps_at s (Some x) = looked_keeps s x (item_at s x)

look_keeps : (s : State) (k : List ℕ) → Keeps s (lookup s k).0
look_keeps s k = look_keeps_at s (find s k)

removed_keeps : (s : State) (o : Option (ChunkRef × PlainItem)) → Keeps s (removed o s)
removed_keeps s None = refl
removed_keeps s (Some (x, i)) = refl

failed_keeps : (v : Verb) (k : List ℕ) (o : Outcome) (s : State) → Keeps s (failed v k o s).0
failed_keeps Sets k o s = removed_keeps (lookup s k).0 (lookup s k).1 ∙ look_keeps s k
failed_keeps Adds k o s = refl
failed_keeps Replaces k o s = refl
failed_keeps (Cases n) k o s = refl

settled_keeps : (c : ℕ) (x : ChunkRef) (k value : List ℕ) (flags : ℕ) (e : ℤ) (s : State) (old : Option (ChunkRef × PlainItem)) (r : Option Outcome) → Keeps s (settled_by c x k value flags e (s, old) r).0
settled_keeps c x k value flags e s old None = removed_keeps s old
settled_keeps c x k value flags e s old (Some o) = refl

stored_room_keeps : (v : Verb) (c : ℕ) (k value : List ℕ) (flags : ℕ) (e : ℤ) (s : State) (r : State × Option ChunkRef) → Keeps s r.0 → Keeps s (stored_room v c k value flags e r).0
stored_room_keeps v c k value flags e s (t, None) h = failed_keeps v k outcome.NoChunk t ∙ h
stored_room_keeps v c k value flags e s (t, Some x) h = settled_keeps c x k value flags e (lookup t k).0 (lookup t k).1 (refusal v (lookup t k).1) ∙ look_keeps t k ∙ h

stored_keeps : (s : State) (v : Verb) (k value : List ℕ) (flags : ℕ) (e : ℤ) (o : Option ℕ) → Keeps s (stored_class s v k value flags e o).0
stored_keeps s v k value flags e None = failed_keeps v k outcome.TooLarge s
stored_keeps s v k value flags e (Some c) = stored_room_keeps v c k value flags e s (room s c) (room_keeps s c)

rewritten_old_keeps : (c : ℕ) (x : ChunkRef) (k value : List ℕ) (flags m : ℕ) (gone done : Outcome) (s : State) (o : Option (ChunkRef × PlainItem)) → Keeps s (rewritten_old c x k value flags m gone done (s, o)).0
rewritten_old_keeps c x k value flags m gone done s None = refl
rewritten_old_keeps c x k value flags m gone done s (Some f) = removed_keeps s (Some f)

rewritten_room_keeps : (c : ℕ) (k value : List ℕ) (flags m : ℕ) (gone done : Outcome) (s : State) (r : State × Option ChunkRef) → Keeps s r.0 → Keeps s (rewritten_room c k value flags m gone done r).0
rewritten_room_keeps c k value flags m gone done s (t, None) h = h
rewritten_room_keeps c k value flags m gone done s (t, Some x) h = rewritten_old_keeps c x k value flags m gone done (lookup t k).0 (lookup t k).1 ∙ look_keeps t k ∙ h

rewritten_class_keeps : (s : State) (k value : List ℕ) (flags m : ℕ) (gone done : Outcome) (o : Option ℕ) → Keeps s (rewritten_class s k value flags m gone done o).0
rewritten_class_keeps s k value flags m gone done None = refl
rewritten_class_keeps s k value flags m gone done (Some c) = rewritten_room_keeps c k value flags m gone done s (room s c) (room_keeps s c)

rewritten_keeps : (s : State) (i : PlainItem) (p : Payload) (gone done : Outcome) → Keeps s (rewritten s i p gone done).0
rewritten_keeps s i p gone done = rewritten_class_keeps s i.key (bytes_of p) i.flags i.moment gone done (class_for s i.key i.flags p)

join_keeps : (side : Side) (p : Payload) (s : State) (o : Option (ChunkRef × PlainItem)) → Keeps s (join_found side p (s, o)).0
join_keeps side p s None = refl
join_keeps side p s (Some (x, i)) = rewritten_keeps s i (joined side i.value p) outcome.NotStored outcome.Stored

count_keeps : (side : Sum) (n : ℕ) (s : State) (o : Option (ChunkRef × PlainItem)) → Keeps s (count_found side n (s, o)).0
count_keeps side n s None = refl
count_keeps side n s (Some (x, i)) =
    either s (is_number i.value) (count_as s i (summed side (digits_from 0 i.value) n)) (s, outcome.NotNumber)
    (rewritten_keeps s i (Bytes (decimal (summed side (digits_from 0 i.value) n))) outcome.NotFound (outcome.Number (summed side (digits_from 0 i.value) n))) refl

hit_again_keeps : (s : State) (q : Queue) (x : ChunkRef) (i : PlainItem) → Keeps s (hit_again s q x i)
hit_again_keeps s Hot x i = refl
hit_again_keeps s Warm x i = refl
hit_again_keeps s Temp x i = refl
hit_again_keeps s Cold x i =
    either_state s (nat_lt (length s.bump) s.fixed.bump_room) (with_item x (record i { bits = record i.bits { active = true } }) (record s { bump = s.bump ++ record { chunk = x; cas = i.cas } ∷ [] })) s refl refl

hit_keeps : (s : State) (x : ChunkRef) (i : PlainItem) → Keeps s (hit s x i)
hit_keeps s x i =
    let again = hit_again s (queue_with s (owner_of s x.page) x) x i in
    let first = with_item x (record i { bits = record i.bits { fetched = true } }) s in
    either_state s i.bits.active s (cond i.bits.fetched again first) refl
    (either_state s i.bits.fetched again first (hit_again_keeps s (queue_with s (owner_of s x.page) x) x i) refl)

get_keeps : (s : State) (o : Option (ChunkRef × PlainItem)) → Keeps s (get_found (s, o)).0
get_keeps s None = refl
get_keeps s (Some (x, i)) = hit_keeps s x i

until_keeps : (m : ℕ) (x : ChunkRef) (o : Option PlainItem) (s : State) → Keeps s (until m x o s)
until_keeps m x None s = refl
until_keeps m x (Some i) s = refl

touch_keeps : (e : ℤ) (s : State) (o : Option (ChunkRef × PlainItem)) → Keeps s (touch_found e (s, o)).0
touch_keeps e s None = refl
touch_keeps e s (Some (x, i)) = until_keeps (moment s.globals.clock e) x (item_at (hit s x i) x) (hit s x i) ∙ hit_keeps s x i

delete_keeps : (s : State) (o : Option (ChunkRef × PlainItem)) → Keeps s (delete_found (s, o)).0
delete_keeps s None = refl
delete_keeps s (Some (x, i)) = refl

evict_keeps : (s : State) (o : Option (ChunkRef × PlainItem)) → Keeps s (evict_found (s, o)).0
evict_keeps s None = refl
evict_keeps s (Some (x, i)) = refl

flush_keeps : (s : State) (m : ℕ) → Keeps s (flush_at s m)
flush_keeps s m = either_state s (nat_le m s.globals.clock) (record s { globals = record s.globals { flush_limit = s.globals.last_cas; flush = None } }) (record s { globals = record s.globals { flush = Some m } }) refl refl

client_keeps : (s : State) (e : ClientStep) → Keeps s (client s e).0
client_keeps s (Stores v k flags e p) = stored_keeps s v k (bytes_of p) flags e (class_for s k flags p)
client_keeps s (Joins side k p) = join_keeps side p (lookup s k).0 (lookup s k).1 ∙ look_keeps s k
client_keeps s (Gets k) = get_keeps (lookup s k).0 (lookup s k).1 ∙ look_keeps s k
client_keeps s (Touches k e) = touch_keeps e (lookup s k).0 (lookup s k).1 ∙ look_keeps s k
client_keeps s (Deletes k) = delete_keeps (lookup s k).0 (lookup s k).1 ∙ look_keeps s k
client_keeps s (Evicts k) = evict_keeps s (item_led_to s (find s k))
client_keeps s (Flushes n) = flush_keeps s (flush_moment s.globals.clock n)
client_keeps s (Counts side k n) = count_keeps side n (lookup s k).0 (lookup s k).1 ∙ look_keeps s k

bump_keeps : (x : ChunkRef) (cas : ℕ) (o : Option PlainItem) (s : State) → Keeps s (bump_item x cas o s).0
bump_keeps x cas None s = refl
bump_keeps x cas (Some i) s =
    either s (nat_eq i.cas cas && (i.bits.active && has same_entry (Chunk x) (queue_of s (owner_of s x.page) Cold)))
    (counted (owner_of s x.page) counter.MovesToWarm (with_item x (record i { bits = record i.bits { active = false }; time = s.globals.clock }) (headed (owner_of s x.page) Cold Warm x s)), outcome.Moved)
    (s, outcome.Idle) refl refl

bump_from_keeps : (s : State) (bs : List BumpEntry) → Keeps s (bump_from s bs).0
bump_from_keeps s [] = refl
bump_from_keeps s (b ∷ bs) = bump_keeps b.chunk b.cas (item_at s b.chunk) (record s { bump = bs })

crawl_item_keeps : (s : State) (c : ℕ) (q : Queue) (x : ChunkRef) (o : Option PlainItem) → Keeps s (crawl_item s c q x o).0
crawl_item_keeps s c q x None = refl
crawl_item_keeps s c q x (Some i) =
    either s (is_dead s.globals i) (counted c counter.CrawlerReclaimed (dropped c q x i s), outcome.Reclaimed) (passed s c q (Chunk x) (without same_entry Mark (queue_of s c q)), outcome.Passed) refl refl

crawl_entry_keeps : (s : State) (c : ℕ) (q : Queue) (o : Option Entry) → Keeps s (crawl_entry s c q o).0
crawl_entry_keeps s c q None = refl
crawl_entry_keeps s c q (Some (Chunk x)) = crawl_item_keeps s c q x (item_at s x)
crawl_entry_keeps s c q (Some Mark) = refl

crawl_keeps : (s : State) (c : ℕ) (q : Queue) → Keeps s (step s (Crawl c q)).0
crawl_keeps s c q =
    let entry = crawl_entry s c q (before same_entry Mark (queue_of s c q)) in
    either s (is_class s c) (cond (has same_entry Mark (queue_of s c q)) entry (s, outcome.Idle)) (s, outcome.BadClass)
    (either s (has same_entry Mark (queue_of s c q)) entry (s, outcome.Idle) (crawl_entry_keeps s c q (before same_entry Mark (queue_of s c q))) refl)
    refl

start_keeps : (s : State) (b d : Bool) (t : State) → Keeps s t → Keeps s (cond {A = State × Outcome} b (s, outcome.BadClass) (cond {A = State × Outcome} d (s, outcome.Busy) (t, outcome.Okay))).0
start_keeps s true d t h = refl
start_keeps s false true t h = refl
start_keeps s false false t h = h

scheduled_keeps : (s : State) (src dst : ℕ) (o : Option ℕ) → Keeps s (scheduled s src dst o).0
scheduled_keeps s src dst None = refl
scheduled_keeps s src dst (Some p) = either s (nat_lt (owned_pages src s.owner) 2) (s, outcome.NoSpare) (with_globals (record s.globals { mover = Some record { src = src; dst = dst; page = p; slot = 0 } }) s, outcome.Okay) refl refl

schedule_keeps : (s : State) (b d e : Bool) (r : State × Outcome) → Keeps s r.0 → Keeps s (cond {A = State × Outcome} b (s, outcome.Busy) (cond {A = State × Outcome} d (s, outcome.Same) (cond {A = State × Outcome} e r (s, outcome.BadClass)))).0
schedule_keeps s true d e r h = refl
schedule_keeps s false true e r h = refl
schedule_keeps s false false true r h = h
schedule_keeps s false false false r h = refl

rescued_keeps : (s : State) (c : ℕ) (x : ChunkRef) (i : PlainItem) (o : Option ChunkRef) → Keeps s (rescued s c x i o).0
rescued_keeps s c x i None = refl
rescued_keeps s c x i (Some y) = refl

cleared_keeps : (s : State) (c : ℕ) (x : ChunkRef) (o : Option PlainItem) → Keeps s (cleared s c x o).0
cleared_keeps s c x None = refl
cleared_keeps s c x (Some i) =
    either s (is_dead s.globals i) (counted c counter.Reclaimed (unlinked c (queue_with s c x) x i s), outcome.Reclaimed) (rescued s c x i (spare x.page (free_of s c))) refl
    (rescued_keeps s c x i (spare x.page (free_of s c)))

next_keeps : (s : State) (m : Mover) (r : State × Outcome) → Keeps s r.0 → Keeps s (next_slot m r).0
next_keeps s m (t, o) h = h

handed_keeps : (s : State) (m : Mover) → Keeps s (handed m s)
handed_keeps s m = go (nat_eq m.dst 0) where
  go : (b : Bool) → Keeps s (cond b
      (record s { owner = slice_set s.owner m.page 0; globals = record s.globals { mover = None } })
      (record s { owner = slice_set s.owner m.page m.dst; free = slice_set s.free m.dst (falling m.page (per_page s.fixed m.dst) ++ free_of s m.dst); globals = record s.globals { mover = None } }))
  go true = refl
  go false = refl

advance_keeps : (s : State) (o : Option Mover) → Keeps s (advance_of s o).0
advance_keeps s None = refl
advance_keeps s (Some m) =
    let x : ChunkRef = record { page = m.page; slot = m.slot } in
    either s (nat_eq m.slot (per_page s.fixed m.src)) (handed m s, outcome.Finished) (next_slot m (cleared s m.src x (item_at s x)))
    (handed_keeps s m) (next_keeps s m (cleared s m.src x (item_at s x)) (cleared_keeps s m.src x (item_at s x)))

due_clock : (n : ℕ) (s : State) (b : Bool) → (cond b (record s.globals { clock = n; flush_limit = s.globals.last_cas; flush = None }) (record s.globals { clock = n })).clock ≡ n
due_clock n s true = refl
due_clock n s false = refl

-- the clock that is told, or else this one
abbrev pub clock_or : Option ℕ → ℕ → ℕ
clock_or None n = n
clock_or (Some t) n = t

-- what a step of the clock leaves and answers, where the clock stands later and where not
abbrev clock_by : State → ℕ → Bool → State × Outcome
clock_by s n b = cond b (s, outcome.Idle) (with_globals (at_clock n s.globals) s, outcome.Okay)

-- the clock after any step, by its answer
pub step_sets : (s : State) (e : Step) → (step s e).0.globals.clock ≡ clock_or (clock_set e (step s e).1) s.globals.clock
step_sets s (Client e) = client_keeps s e
step_sets s (Pull c q) = either s (is_class s c) (pull s c q Plain) (s, outcome.BadClass) (pull_keeps s c q Plain) refl
step_sets s Bump = bump_from_keeps s s.bump
step_sets s (CrawlStart set) = start_keeps s (names_other 64 s set) (is_busy 64 s set) (record s { queues = marked (names s set) 0 s.queues }) refl
step_sets s (Crawl c q) = crawl_keeps s c q
step_sets s (Schedule src dst) = schedule_keeps s (is_some s.globals.mover) (nat_eq src dst) (is_class s src && nat_le dst (last_class s)) (scheduled s src dst (lowest_page s src)) (scheduled_keeps s src dst (lowest_page s src))
step_sets s Advance = advance_keeps s s.globals.mover
step_sets s (Clock n) = go (nat_lt n s.globals.clock) where
  go : (b : Bool) → (clock_by s n b).0.globals.clock ≡ clock_or (clock_set (Clock n) (clock_by s n b).1) s.globals.clock
  go true = refl
  go false = due_clock n s (is_due s.globals.flush n)
step_sets s (Tune a b c d) = refl
step_sets s (TempTtl n) = refl

later_none : (n : ℕ) → later 0 n ≡ n
later_none zero = refl
later_none (suc n) = ap (λ t. cond t (suc n) 0) (lt-ltb 0 (suc n) (omega arith))

kept : (s t : State) → Keeps s t → t.globals.clock ≡ later 0 s.globals.clock
kept s t h = h ∙ sym (later_none s.globals.clock)

-- the same, without the answer
pub step_clock : (s : State) (e : Step) → (step s e).0.globals.clock ≡ later (time_set e) s.globals.clock
step_clock s (Client e) = kept s (step s (Client e)).0 (step_sets s (Client e))
step_clock s (Pull c q) = kept s (step s (Pull c q)).0 (step_sets s (Pull c q))
step_clock s Bump = kept s (step s Bump).0 (step_sets s Bump)
step_clock s (CrawlStart set) = kept s (step s (CrawlStart set)).0 (step_sets s (CrawlStart set))
step_clock s (Crawl c q) = kept s (step s (Crawl c q)).0 (step_sets s (Crawl c q))
step_clock s (Schedule src dst) = kept s (step s (Schedule src dst)).0 (step_sets s (Schedule src dst))
step_clock s Advance = kept s (step s Advance).0 (step_sets s Advance)
step_clock s (Clock n) = go (nat_lt n s.globals.clock) where
  go : (b : Bool) → (clock_by s n b).0.globals.clock ≡ cond b s.globals.clock n
  go true = refl
  go false = due_clock n s (is_due s.globals.flush n)
step_clock s (Tune a b c d) = kept s (step s (Tune a b c d)).0 refl
step_clock s (TempTtl n) = kept s (step s (TempTtl n)).0 refl

-- ---- a record: its changes, of which the first is undone last

bound_clock : (x : ChunkRef) (o : Option PlainItem) (s : State) → Keeps s (bound x o s)
bound_clock x None s = refl
bound_clock x (Some i) s = refl

unbound_clock : (o : Option PlainItem) (s : State) → Keeps s (unbound o s)
unbound_clock None s = refl
unbound_clock (Some i) s = refl

taken_clock : (l : Listed) (s : State) → Keeps s (moved (moves.Takes l) s)
taken_clock (InFree c x) s = refl
taken_clock (InQueue c q e) s = refl

put_clock : (l : Placed) (s : State) → Keeps s (moved (moves.Puts l) s)
put_clock (ToFree c x a) s = refl
put_clock (ToQueue c q e a) s = refl

laid_clock : (p c n : ℕ) (f : Form) (s : State) → Keeps s (laid p c n f s)
laid_clock p c n Fresh s = refl
laid_clock p c n Pool s = refl
laid_clock p c n Withdrawn s = refl

lifted_clock : (p c n : ℕ) (f : Form) (s : State) → Keeps s (lifted p c n f s)
lifted_clock p c n Fresh s = refl
lifted_clock p c n Pool s = refl
lifted_clock p c n Withdrawn s = refl

clock-through : (ms rest : List Move) (t : State) → (turned (ms ++ rest) t).0.globals.clock ≡ clock_or (clock_through ms) (turned rest t).0.globals.clock
clock-through [] rest t = refl
clock-through (moves.Sets (part.Timing v) ∷ ms) rest t = refl
clock-through (moves.Sets (part.LastCas n) ∷ ms) rest t = clock-through ms rest t
clock-through (moves.Sets (part.Mover m) ∷ ms) rest t = clock-through ms rest t
clock-through (moves.Sets (part.Settings w) ∷ ms) rest t = clock-through ms rest t
clock-through (moves.Takes l ∷ ms) rest t = taken_clock l (turned (ms ++ rest) t).0 ∙ clock-through ms rest t
clock-through (moves.Puts l ∷ ms) rest t = put_clock l (turned (ms ++ rest) t).0 ∙ clock-through ms rest t
clock-through (moves.Fills x o ∷ ms) rest t = clock-through ms rest t
clock-through (moves.Touches x v ∷ ms) rest t = clock-through ms rest t
clock-through (moves.Binds x ∷ ms) rest t = bound_clock x (item_at (turned (ms ++ rest) t).0 x) (turned (ms ++ rest) t).0 ∙ clock-through ms rest t
clock-through (moves.Unbinds x ∷ ms) rest t = unbound_clock (item_at (turned (ms ++ rest) t).0 x) (turned (ms ++ rest) t).0 ∙ clock-through ms rest t
clock-through (moves.Lays p c n f ∷ ms) rest t = laid_clock p c n f (turned (ms ++ rest) t).0 ∙ clock-through ms rest t
clock-through (moves.Lifts p f ∷ ms) rest t =
    lifted_clock p (owner_of (turned (ms ++ rest) t).0 p) (per_page (turned (ms ++ rest) t).0.fixed (owner_of (turned (ms ++ rest) t).0 p)) f (turned (ms ++ rest) t).0
    ∙ clock-through ms rest t
clock-through (moves.Counts c j v ∷ ms) rest t = clock-through ms rest t
clock-through (moves.BumpsIn b ∷ ms) rest t = clock-through ms rest t
clock-through (moves.BumpsBack ∷ ms) rest t = clock-through ms rest t
clock-through (moves.BumpsOut ∷ ms) rest t = clock-through ms rest t
clock-through (moves.BumpsFront b ∷ ms) rest t = clock-through ms rest t
clock-through (moves.Shifts a b ∷ ms) rest t = clock-through ms rest t
clock-through (moves.MarksIn set ∷ ms) rest t = clock-through ms rest t
clock-through (moves.MarksOut set ∷ ms) rest t = clock-through ms rest t

-- the clock before the changes from the i-th on
abbrev pub clock_from : List PlainChange → ℕ → State → ℕ
clock_from gs i t = (turned (moves_in (drop i gs)) t).0.globals.clock

pub clock_next : (gs : List PlainChange) (i : ℕ) (g : PlainChange) (t : State) → i < length gs → g ≡ slice_index_or gs i g → clock_from gs i t ≡ clock_or (clock_through g.moves) (clock_from gs (i + 1) t)
clock_next gs i g t lt e = ap (λ l. (turned (moves_in l) t).0.globals.clock) (drop_at gs i g lt e) ∙ clock-through g.moves (moves_in (drop (i + 1) gs)) t

pub clock_end : (gs : List PlainChange) (i : ℕ) (t : State) → length gs ≤ i → clock_from gs i t ≡ t.globals.clock
clock_end gs i t le = ap (λ l. (turned (moves_in l) t).0.globals.clock) (drop_all i gs le)

-- where the i-th change sets the clock
pub clock_told : (gs : List PlainChange) (ms : List Move) (i n : ℕ) (g : PlainChange) (t : State) → (turned ms t).0.globals.clock ≡ clock_from gs i t → i < length gs → g ≡ slice_index_or gs i g → Some n ≡ clock_through g.moves → n ≡ (turned ms t).0.globals.clock
clock_told gs ms i n g t inv lt e told = ap (λ o. clock_or o (clock_from gs (i + 1) t)) told ∙ sym (clock_next gs i g t lt e) ∙ sym inv

pub clock_whole : (r : PlainRecord) (t : State) → IsWhole r → (turned r.moves t).0.globals.clock ≡ clock_from r.changes 0 t
clock_whole r t whole = ap (λ l. (turned l t).0.globals.clock) whole.moves

-- ---- the later of two times

later_up : (a b : ℕ) → a < b → later a b ≡ b
later_up a b l = ap (λ t. cond t b a) (lt-ltb a b l)

later_down : (a b : ℕ) → b ≤ a → later a b ≡ a
later_down a b l = ap (λ t. cond t b a) (le-ltb a b l)

later_is : (a b : ℕ) → ((a < b) × (later a b ≡ b)) ⊎ ((b ≤ a) × (later a b ≡ a))
later_is a b = elim (leb_tells b a) [
  | inl p ↦ inr (p.1, later_down a b p.1)
  | inr p ↦ inl (p.1, later_up a b p.1)
]

later_more : (a b c : ℕ) → later a (later b c) ≡ later (later a b) c
later_more a b c = elim (later_is b c) [
  | inl p ↦ ap (later a) p.1 ∙ elim (later_is a b) [
    | inl q ↦ later_up a c (omega (arith, p.0, q.0)) ∙ sym p.1 ∙ ap (λ z. later z c) (sym q.1)
    | inr q ↦ ap (λ z. later z c) (sym q.1)
  ]
  | inr p ↦ ap (later a) p.1 ∙ elim (later_is a b) [
    | inl q ↦ q.1 ∙ sym p.1 ∙ ap (λ z. later z c) (sym q.1)
    | inr q ↦ q.1 ∙ sym (later_down a c (omega (arith, p.0, q.0))) ∙ ap (λ z. later z c) (sym q.1)
  ]
]

-- ---- the way up

abbrev pub clock_starts : (v : SessionState) (clock : ℕ) → clock ≡ clock_at v.root v.rows v.current → Clocked v (length (lineage v.rows v.current)) clock
clock_starts v clock e = record { climb = climb_starts v; told = e }

abbrev pub clock_up : (v : SessionState) (d n : ℕ) (e : Step) (o : Outcome) (r : PlainRecord) (clock earlier : ℕ) → Clocked v d clock → 0 < d → Trailed v d n e o r
    → ((after : State) → clock ≡ after.globals.clock → earlier ≡ (turned r.moves after).0.globals.clock) → Clocked v (d - 1) earlier
clock_up v d n e o r clock earlier w pos h f = record {
  climb = climbs v d n e o r w.climb pos h;
  told = f (at v.root v.rows n) (w.told ∙ ap (λ s. s.globals.clock) (node_state v d n e o r w.climb pos h)) ∙ ap (λ s. s.globals.clock) h.leads.there;
}

not_empty : (l : List ℕ) (n : ℕ) → l ++ n ∷ [] ≡ [] → ⊥
not_empty [] n e = let m : length (n ∷ []) ≡ 0 = ap length e in omega (arith, m)
not_empty (x ∷ xs) n e = let m : length (x ∷ (xs ++ n ∷ [])) ≡ 0 = ap length e in omega (arith, m)

-- where the way ends
root_state : (root : State) (rows : List (Option Row)) (n : ℕ) → lineage rows n ≡ [] → at root rows n ≡ root
unfolding lineage at
root_state root rows zero e = refl
root_state root rows (suc m) e = go (row_of rows (suc m)) e where
  go : (q : Option Row) → nodes_from q (λ r. lineage_within m rows r.parent ++ suc m ∷ []) ≡ [] → state_from q root (λ r. next (at_within m root rows r.parent) r.step) ≡ root
  go None h = refl
  go (Some r) h = absurd (not_empty (lineage_within m rows r.parent) (suc m) h)

no_nodes : (l : List ℕ) → length l ≡ 0 → l ≡ []
no_nodes [] e = refl
no_nodes (x ∷ xs) e = absurd (omega (arith, e))

-- a way that is not empty ends with its node
ends_with : (rows : List (Option Row)) (n : ℕ) → (lineage rows n ≡ []) ⊎ ((l : List ℕ) × (lineage rows n ≡ l ++ n ∷ []))
unfolding lineage
ends_with rows zero = inl refl
ends_with rows (suc m) = go (row_of rows (suc m)) where
  way : Option Row → List ℕ
  way q = nodes_from q (λ r. lineage_within m rows r.parent ++ suc m ∷ [])

  go : (q : Option Row) → (way q ≡ []) ⊎ ((l : List ℕ) × (way q ≡ l ++ suc m ∷ []))
  go None = inl refl
  go (Some r) = inr (lineage_within m rows r.parent, refl)

same_head : (m n : ℕ) (l k : List ℕ) → m ∷ l ≡ n ∷ k → m ≡ n
same_head m n l k e = cc

same_last : (l k : List ℕ) (m n : ℕ) → l ++ m ∷ [] ≡ k ++ n ∷ [] → m ≡ n
same_last l k m n e = same_head m n (reverse l) (reverse k) (sym (reverse-append l (m ∷ [])) ∙ ap reverse e ∙ reverse-append k (n ∷ []))

-- where two ways are the same, the states are
same_way : (root : State) (rows : List (Option Row)) (m n : ℕ) → lineage rows m ≡ lineage rows n → at root rows m ≡ at root rows n
same_way root rows m n e = elim (ends_with rows m) [
  | inl f ↦ root_state root rows m f ∙ sym (root_state root rows n (sym e ∙ f))
  | inr p ↦ elim (ends_with rows n) [
    | inl g ↦ absurd (not_empty p.0 m (sym p.1 ∙ e ∙ g))
    | inr q ↦ ap (at root rows) (same_last p.0 q.0 m n (sym p.1 ∙ e ∙ q.1))
  ]
]

-- the way to the node at a depth
way_to : (v : SessionState) (d : ℕ) (w : Climbs v d) → take d (lineage v.rows v.current) ≡ lineage v.rows w.node
way_to v d w = ap (take d) w.splits ∙ ap (λ i. take i (lineage v.rows w.node ++ w.below)) (sym w.deep) ∙ take-append_seam (lineage v.rows w.node) w.below

same_clock : (v : SessionState) (d : ℕ) (w u : Climbs v d) → clock_at v.root v.rows w.node ≡ clock_at v.root v.rows u.node
same_clock v d w u = ap (λ s. s.globals.clock) (same_way v.root v.rows w.node u.node (sym (way_to v d w) ∙ way_to v d u))

-- there is one clock at a depth
pub one_clock : (v : SessionState) (d a b : ℕ) → Clocked v d a → Clocked v d b → a ≡ b
one_clock v d a b w u = w.told ∙ same_clock v d w.climb u.climb ∙ sym u.told

-- at the end of the way it is the current one
pub last_clock : (v : SessionState) (d clock now : ℕ) → Clocked v d clock → length (lineage v.rows v.current) ≤ d → now ≡ clock_at v.root v.rows v.current → now ≡ clock
last_clock v d clock now w le e =
    let within = climb_within v d w.climb in
    let here : d ≡ length (lineage v.rows v.current) = omega (arith, le, within) in
    one_clock v (length (lineage v.rows v.current)) now clock (clock_starts v now e) (subst (λ i. Clocked v i clock) here w)

-- at depth 0 it is that of the root
pub first_clock : (v : SessionState) → Clocked v 0 v.root.globals.clock
unfolding lineage at
first_clock v = record { climb = record { node = 0; below = lineage v.rows v.current; splits = refl; deep = refl }; told = refl }

pub root_clock : (v : SessionState) (d m : ℕ) → d ≡ 0 → IsTrue (nat_eq m 0) → Clocked v d (clock_at v.root v.rows m)
unfolding at
root_clock v d m z t =
    subst (λ i. Clocked v i (clock_at v.root v.rows m)) (sym z) (subst (λ i. Clocked v 0 (clock_at v.root v.rows i)) (sym (eqb-true m 0 t)) (first_clock v))

-- at the d-th node and at its parent
module _ (v : SessionState) (d n : ℕ) (e : Step) (o : Outcome) (r : PlainRecord) (pos : 0 < d) (le : d ≤ length (lineage v.rows v.current)) (h : Trailed v d n e o r) where
  abbrev here : Climbs v d
  here = climb_to v h.falls d le

  abbrev parent_clock : Clocked v (d - 1) (clock_at v.root v.rows h.row.parent)
  parent_clock = record { climb = climbs v d n e o r here pos h; told = refl }

  abbrev pub node_clock : Clocked v d (clock_at v.root v.rows n)
  node_clock = record { climb = here; told = sym (ap (λ s. s.globals.clock) (node_state v d n e o r here pos h)) }

  pub number_clock : (m : ℕ) → IsTrue (nat_eq n m) → Clocked v d (clock_at v.root v.rows m)
  number_clock m t = subst (λ i. Clocked v d (clock_at v.root v.rows i)) (eqb-true n m t) node_clock

  -- the clock after the step, by its answer
  stepped_clock : clock_at v.root v.rows n ≡ clock_or (clock_set e o) (clock_at v.root v.rows h.row.parent)
  unfolding outcome_of
  stepped_clock =
      ap (λ s. s.globals.clock) h.stepped ∙ step_sets (at v.root v.rows h.row.parent) e
      ∙ ap (λ a. clock_or (clock_set e a) (clock_at v.root v.rows h.row.parent)) (sym h.answered)

  module _ (t : ℕ) (set : Some t ≡ clock_set e o) where
    set_here : t ≡ clock_at v.root v.rows n
    set_here = sym (stepped_clock ∙ ap (λ a. clock_or a (clock_at v.root v.rows h.row.parent)) (sym set))

    pub set_after : (clock : ℕ) → Clocked v d clock → t ≡ clock
    set_after clock w = set_here ∙ one_clock v d (clock_at v.root v.rows n) clock node_clock w

    pub set_before : (earlier : ℕ) → ((after : State) → t ≡ after.globals.clock → earlier ≡ (turned r.moves after).0.globals.clock) → (clock : ℕ) → Clocked v (d - 1) clock → earlier ≡ clock
    set_before earlier f clock w =
        f (at v.root v.rows n) set_here ∙ ap (λ s. s.globals.clock) h.leads.there
        ∙ one_clock v (d - 1) (clock_at v.root v.rows h.row.parent) clock parent_clock w

  module _ (unset : None ≡ clock_set e o) where
    stays : clock_at v.root v.rows n ≡ clock_at v.root v.rows h.row.parent
    stays = stepped_clock ∙ ap (λ a. clock_or a (clock_at v.root v.rows h.row.parent)) (sym unset)

    pub unset_up : (clock : ℕ) → Clocked v d clock → Clocked v (d - 1) clock
    unset_up clock w = record {
      climb = parent_clock.climb;
      told = one_clock v d clock (clock_at v.root v.rows n) w node_clock ∙ stays;
    }

    pub unset_down : (clock : ℕ) → Clocked v (d - 1) clock → Clocked v d clock
    unset_down clock w = record {
      climb = here;
      told = one_clock v (d - 1) clock (clock_at v.root v.rows h.row.parent) w parent_clock ∙ sym stays ∙ node_clock.told;
    }

-- where there is no step
pub none_up : (v : SessionState) (d clock : ℕ) → ((d ≡ 0) ⊎ (length (lineage v.rows v.current) < d)) → Clocked v d clock → Clocked v (d - 1) clock
none_up v d clock (inl z) w = subst (λ i. Clocked v i clock) (omega (arith, z)) w
none_up v d clock (inr l) w = let within = climb_within v d w.climb in absurd (omega (arith, l, within))

pub none_down : (v : SessionState) (d clock : ℕ) → ((d ≡ 0) ⊎ (length (lineage v.rows v.current) < d)) → d ≤ length (lineage v.rows v.current) → Clocked v (d - 1) clock → Clocked v d clock
none_down v d clock (inl z) le w = subst (λ i. Clocked v i clock) (omega (arith, z)) w
none_down v d clock (inr l) le w = absurd (omega (arith, l, le))

pub clock_root : (v : SessionState) (d clock : ℕ) → Clocked v d clock → d ≡ 0 → clock ≡ v.root.globals.clock
clock_root v d clock w z = w.told ∙ ap (λ s. s.globals.clock) (root_state v.root v.rows w.climb.node (no_nodes (lineage v.rows w.climb.node) (w.climb.deep ∙ z)))

-- ---- the way up from any node: at most `left` nodes up from `above`, the later of `clock` and the clock there is that
-- of the node
abbrev pub Sought : State → List (Option Row) → ℕ → ℕ → ℕ → ℕ → Type 0
Sought root rows n clock above left = clock_at root rows n ≡ later clock (at_within left root rows above).globals.clock

pub seek_starts : (root : State) (rows : List (Option Row)) (n : ℕ) → Sought root rows n 0 n n
unfolding at
seek_starts root rows n = sym (later_none (at_within n root rows n).globals.clock)

from_row : (root : State) (rows : List (Option Row)) (k above : ℕ) (r : Row) → row_of rows above ≡ Some r → (at_within (suc k) root rows above).globals.clock ≡ later (time_set r.step) (at_within k root rows r.parent).globals.clock
unfolding next
from_row root rows k above r e =
    ap (λ q. (state_from q root (λ p. next (at_within k root rows p.parent) p.step)).globals.clock) e
    ∙ step_clock (at_within k root rows r.parent) r.step

pub seek_up : (root : State) (rows : List (Option Row)) (n clock above left more up : ℕ) (r : Row) → Sought root rows n clock above left → 0 < left → row_of rows above ≡ Some r → up ≡ r.parent → more ≡ later clock (time_set r.step) → Sought root rows n more up (left - 1)
seek_up root rows n clock above zero more up r w pos e ue me = absurd (omega (arith, pos))
seek_up root rows n clock above (suc k) more up r w pos e ue me =
    w ∙ ap (later clock) (from_row root rows k above r e)
    ∙ later_more clock (time_set r.step) (at_within k root rows r.parent).globals.clock
    ∙ ap (λ c. later c (at_within k root rows r.parent).globals.clock) (sym me)
    ∙ ap (λ p. later more (at_within k root rows p).globals.clock) (sym ue)
    ∙ ap (λ j. later more (at_within j root rows up).globals.clock) (omega arith)

no_row : (root : State) (rows : List (Option Row)) (left above : ℕ) → row_of rows above ≡ None → at_within left root rows above ≡ root
no_row root rows zero above e = refl
no_row root rows (suc k) above e = ap (λ q. state_from q root (λ p. next (at_within k root rows p.parent) p.step)) e

pub seek_stops : (root : State) (rows : List (Option Row)) (n clock above left : ℕ) → Sought root rows n clock above left → row_of rows above ≡ None → Sought root rows n clock above 0
seek_stops root rows n clock above left w e = w ∙ ap (λ s. later clock s.globals.clock) (no_row root rows left above e)

pub seek_ends : (root : State) (rows : List (Option Row)) (n clock above left : ℕ) → Sought root rows n clock above left → left ≡ 0 → clock_at root rows n ≡ later clock root.globals.clock
seek_ends root rows n clock above left w z = w ∙ ap (λ j. later clock (at_within j root rows above).globals.clock) z

-- ---- the way up from any node, where parents come in front of their children: the clock there is that at the node
module _ (root : State) (rows : List (Option Row)) (n above : ℕ) (w : clock_at root rows n ≡ clock_at root rows above) where
  module _ (falls : RowsFall rows) (r : Row) (e : row_of rows above ≡ Some r) (f : Step) (o : Outcome) (played : f ≡ r.step) (answered : o ≡ outcome_of (at root rows r.parent) r.step) where
    by_row : clock_at root rows n ≡ clock_or (clock_set f o) (clock_at root rows r.parent)
    unfolding next outcome_of
    by_row =
        w ∙ ap (λ s. s.globals.clock) (at-step root rows falls above r e) ∙ step_sets (at root rows r.parent) r.step
        ∙ ap (λ a. clock_or (clock_set r.step a) (clock_at root rows r.parent)) (sym answered)
        ∙ ap (λ g. clock_or (clock_set g o) (clock_at root rows r.parent)) (sym played)

    pub off_set : (t : ℕ) → Some t ≡ clock_set f o → t ≡ clock_at root rows n
    off_set t set = sym (by_row ∙ ap (λ a. clock_or a (clock_at root rows r.parent)) (sym set))

    pub off_up : None ≡ clock_set f o → (up : ℕ) → up ≡ r.parent → clock_at root rows n ≡ clock_at root rows up
    off_up unset up u = by_row ∙ ap (λ a. clock_or a (clock_at root rows r.parent)) (sym unset) ∙ ap (clock_at root rows) (sym u)

  pub off_none : row_of rows above ≡ None → clock_at root rows n ≡ clock_at root rows 0
  unfolding at
  off_none e = w ∙ ap (λ s. s.globals.clock) (no_row root rows above above e)

  pub off_root : above ≡ 0 → clock_at root rows n ≡ root.globals.clock
  unfolding at
  off_root z = w ∙ ap (clock_at root rows) z

-- ---- the last node by a time

later_test : (a b : ℕ) → b < a → nat_le a b ≡ false
later_test a b l = elim (leb_tells a b) [
  | inl p ↦ absurd (omega (arith, p.1, l))
  | inr p ↦ p.0
]

last_by-more : (root : State) (rows : List (Option Row)) (t : ℕ) (m : Option ℕ) (l : List ℕ) (n : ℕ) → last_by root rows t m (l ++ n ∷ []) ≡ cond (nat_le (clock_at root rows n) t) (Some n) (last_by root rows t m l)
last_by-more root rows t m [] n = refl
last_by-more root rows t m (x ∷ xs) n = last_by-more root rows t (cond (nat_le (clock_at root rows x) t) (Some x) m) xs n

-- the node that is sought is the last one by this time up to the d-th node of the way
pub record Timed (v : SessionState) (t d clock : ℕ) : Type 0 where
  pub clocked : Clocked v d clock
  pub same : node_by v.root v.rows v.current t ≡ node_by v.root v.rows clocked.climb.node t

pub time_starts : (v : SessionState) (t clock : ℕ) → clock ≡ clock_at v.root v.rows v.current → Timed v t (length (lineage v.rows v.current)) clock
time_starts v t clock e = record { clocked = clock_starts v clock e; same = refl }

module _ (v : SessionState) (t d n : ℕ) (e : Step) (o : Outcome) (r : PlainRecord) (clock : ℕ) (w : Timed v t d clock) (pos : 0 < d) (h : Trailed v d n e o r) where
  -- by the node and those above it
  node_by-here : node_by v.root v.rows v.current t ≡ cond (nat_le clock t) (Some n) (node_by v.root v.rows h.row.parent t)
  node_by-here =
      let here = w.clocked.climb.node in
      w.same
      ∙ ap (λ l. last_by v.root v.rows t None (0 ∷ l)) (lineage_above v.rows h.falls here h.row (row_is v d n e o r w.clocked.climb pos h))
      ∙ last_by-more v.root v.rows t None (0 ∷ lineage v.rows h.row.parent) here
      ∙ ap (λ c. cond (nat_le c t) (Some w.clocked.climb.node) (node_by v.root v.rows h.row.parent t)) (sym w.clocked.told)
      ∙ ap (λ m. cond (nat_le clock t) (Some m) (node_by v.root v.rows h.row.parent t)) (node_is v d n e o r w.clocked.climb pos h)

  pub time_here : clock ≤ t → Some n ≡ node_by v.root v.rows v.current t
  time_here l = sym (node_by-here ∙ ap (λ b. cond b (Some n) (node_by v.root v.rows h.row.parent t)) (le-leb clock t l))

  pub time_up : t < clock → (earlier : ℕ) → ((after : State) → clock ≡ after.globals.clock → earlier ≡ (turned r.moves after).0.globals.clock) → Timed v t (d - 1) earlier
  time_up l earlier f = record {
    clocked = clock_up v d n e o r clock earlier w.clocked pos h f;
    same = node_by-here ∙ ap (λ b. cond b (Some n) (node_by v.root v.rows h.row.parent t)) (later_test clock t l);
  }

-- at the root
root_by : (v : SessionState) (t d clock : ℕ) → Timed v t d clock → d ≡ 0 → node_by v.root v.rows v.current t ≡ cond (nat_le clock t) (Some 0) None
unfolding at
root_by v t d clock w z =
    w.same
    ∙ ap (λ l. last_by v.root v.rows t None (0 ∷ l)) (no_nodes (lineage v.rows w.clocked.climb.node) (w.clocked.climb.deep ∙ z))
    ∙ ap (λ c. cond (nat_le c t) (Some 0) None) (sym (clock_root v d clock w.clocked z))

pub time_root : (v : SessionState) (t d clock : ℕ) → Timed v t d clock → d ≡ 0 → clock ≤ t → Some 0 ≡ node_by v.root v.rows v.current t
time_root v t d clock w z l = sym (root_by v t d clock w z ∙ ap (λ b. cond b (Some 0) None) (le-leb clock t l))

pub time_none : (v : SessionState) (t d clock : ℕ) → Timed v t d clock → d ≡ 0 → t < clock → None ≡ node_by v.root v.rows v.current t
time_none v t d clock w z l = sym (root_by v t d clock w z ∙ ap (λ b. cond b (Some 0) None) (later_test clock t l))
