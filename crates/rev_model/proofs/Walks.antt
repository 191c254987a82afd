-- The parts of each step with their removals, and what becomes of each key at a step. That a key which a step stores is
-- held after it stands in Storing.antt.
use Rattle.std.specs.Prelude.{ℕ, ℤ, ◌≡◌, Bool, true, false, cond, not, ◌&&◌, List, [], ◌∷◌, ◌++◌, Option, None, Some, is_some, length, slice_set, nat_eq, nat_lt, nat_le, refl}
use Rattle.std.proofs.Common.{sym, ◌∙◌, ap, subst}
use Rattle.std.proofs.lemmas.Bool.{false≢true}
use Rattle.std.proofs.lemmas.List.{append-nil}
use Rattle.std.specs.Fmt.{decimal}
use Rattle.std.specs.FinMap as map
use Rattle.std.specs.Option.{option_map}
use Rattle.rev_items.specs.Plain.{PlainItem}
use Rattle.rev_items.specs.Rules.{moment}
use Rattle.rev_model.specs.Chunk.{same_chunk, same_entry}
use Rattle.rev_model.specs.Lists.{has, without, before}
use Rattle.rev_model.specs.Move.{falling, is_class, names, names_other, marked}
use Rattle.rev_model.specs.State.{State, WellFormed, item_at, find, owner_of, queue_of, free_of, per_page, last_class}
use Rattle.rev_model.specs.Words.{is_dead, dropped, unlinked, counted, headed, queue_with, with_item}
use Rattle.rev_model.specs.Sound.{Sound}
use Rattle.rev_model.specs.Pull.{pull, room, lowest_page}
use Rattle.rev_model.specs.Client.{ClientStep, Stores, Joins, Gets, Touches, Deletes, Evicts, Flushes, Counts, Verb, Sets, Adds, Replaces, Cases, Side, Sum, Payload, Bytes, bytes_of, lookup, item_led_to, removed, hit, hit_again, renewed, class_for, joined, is_number, digits_from, summed, refusal, failed, settled_by, stored_room, stored_class, rewritten_old, rewritten_room, rewritten_class, rewritten, join_found, count_as, count_found, get_found, until, touch_found, delete_found, evict_found, flush_at, flush_moment, client}
use Rattle.rev_model.specs.Actor.{Step, Client, Pull, Bump, CrawlStart, Crawl, Schedule, Advance, Clock, Tune, TempTtl, step, bump_item, bump_from, is_busy, passed, crawl_item, crawl_entry, owned_pages, scheduled, spare, rescued, cleared, next_slot, handed, advance_of, with_globals, at_clock}
use Rattle.rev_model.proofs.Undo.{tells_chunk}
use Rattle.rev_model.specs.Track.{held, same_key, Removal, removal}
use Rattle.rev_model.proofs.Track.{first_removal, key_removals, key_removals-first}
use Rattle.rev_model.specs.Causes.{look_removals, found_removals, clear_removals, failed_removals, settled_removals, after_room, store_in_removals, stored_removals, after_rewrite, rewrite_in_removals, rewritten_removals, rewrite_removals, join_found_removals, count_found_removals, client_removals, pull_removals, pull_step_removals, crawl_item_removals, crawl_entry_removals, crawl_removals, rescue_removals, cleared_removals, advance_removals_of, advance_removals, step_removals, room_removals}
use Rattle.rev_model.specs.Events.{Part, ByRoom, ByLookup, ByDelete, ByFailedSet, ByEvict, ByPull, ByCrawl, ByAdvance, then, clear_stages, lookup_stages, failed_stages, room_stages, store_in_stages, store_stages, rewrite_room_stages, rewrite_in_stages, rewrite_class_stages, rewrite_stages, join_found_stages, count_found_stages, client_stages, stages, cause_by, cause_of, alive, is_key, key_to_store, is_stored, stores}
use Rattle.rev_model.proofs.Fates.{Indexed, indexed_sound, fate-alive, Stays, stays, key_removed, key_inserted}
use Rattle.rev_model.proofs.Leaving.{Goes, goes_stays, goes_drops, goes_carries, goes_cond, pull_goes, room_goes}
use Rattle.rev_model.proofs.Stages.{look_goes, found_is, some_pair, cleared_goes, Ends, Walked, Leaves, stays_so, leaves, walked_leaves}
use Rattle.rev_model.proofs.Storing.{stored_held}
use Rattle.rev_model.specs.declared.ChunkRef.{ChunkRef}
use Rattle.rev_model.specs.declared.Cause.{Cause}
use Rattle.rev_model.specs.declared.Cause.TheVariants.{Evicted, ReclaimedByCrawler, ReclaimedByMover, EvictedByMover, Deleted, DroppedByFailedSet}
use Rattle.rev_model.specs.declared.BumpEntry.{BumpEntry}
use Rattle.rev_model.specs.declared.Counter.TheVariants as counter
use Rattle.rev_model.specs.declared.Entry.{Entry}
use Rattle.rev_model.specs.declared.Entry.TheVariants.{Chunk, Mark}
use Rattle.rev_model.specs.declared.Mover.{Mover}
use Rattle.rev_model.specs.declared.Outcome.{Outcome}
use Rattle.rev_model.specs.declared.Outcome.TheVariants as outcome
use Rattle.rev_model.specs.declared.PullMode.TheVariants.{Plain}
use Rattle.rev_model.specs.declared.Queue.{Queue}
use Rattle.rev_model.specs.declared.Queue.TheVariants.{Hot, Warm, Cold, Temp}

-- ---- what stands behind the parts

-- where nothing leaves the index and nothing is told
ends_same : (k : List ℕ) (own : Bool) (s : State) (r : State × Outcome) → r.0.index ≡ s.index → Ends k own s [] r
ends_same k own s r e = λ n. (ap (λ m. is_some (map.get m k)) e, refl)

index_either : (s : State) (b : Bool) (p q : State × Outcome) → p.0.index ≡ s.index → q.0.index ≡ s.index → (cond b p q).0.index ≡ s.index
index_either s true p q e f = e
index_either s false p q e f = f

-- what was found is the item of this key
abbrev IsOf : List ℕ → Option (ChunkRef × PlainItem) → Type 0
IsOf l o = (x : ChunkRef) (i : PlainItem) → o ≡ Some (x, i) → i.key ≡ l

-- another key is held as it was where the old item of this one makes way
removed_other : (s : State) (o : Option (ChunkRef × PlainItem)) (l k : List ℕ) → IsOf l o → same_key k l ≡ false → held (removed o s) k ≡ held s k
removed_other s None l k own ne = refl
removed_other s (Some (x, i)) l k own ne = ap is_some (key_removed s i.key k ∙ ap (λ b. cond b None (find s k)) (ap (same_key k) (own x i refl) ∙ ne))

renewed_other : (c : ℕ) (x : ChunkRef) (l value : List ℕ) (flags m : ℕ) (o : Option (ChunkRef × PlainItem)) (s : State) (k : List ℕ) → IsOf l o → same_key k l ≡ false → held (renewed c x l value flags m o s) k ≡ held s k
renewed_other c x l value flags m o s k own ne =
    ap is_some (key_inserted (removed o s) l x k ∙ ap (λ b. cond b (Some x) (find (removed o s) k)) ne) ∙ removed_other s o l k own ne

-- and nothing is told of it
found_other : (n : Option Cause) (o : Option (ChunkRef × PlainItem)) (l k : List ℕ) → IsOf l o → same_key k l ≡ false → key_removals k (found_removals n o) ≡ []
found_other n None l k own ne = refl
found_other n (Some (x, i)) l k own ne = ap (λ b. cond b (record { key = i.key; note = n } ∷ []) []) (ap (same_key k) (own x i refl) ∙ ne)

other_key : (b c : Bool) → c ≡ true → b && c ≡ false → b ≡ false
other_key true true e h = h
other_key false c e h = refl
other_key true false e h = absurd (false≢true e)

-- the new item of the key l is in the place of the old one
renewed_ends : (k : List ℕ) (c : ℕ) (x : ChunkRef) (l value : List ℕ) (flags m : ℕ) (done : Outcome) (s : State) (o : Option (ChunkRef × PlainItem)) → IsOf l o → is_stored done ≡ true
    → Ends k (same_key k l) s (found_removals None o) (renewed c x l value flags m o s, done)
renewed_ends k c x l value flags m done s o own e h =
    let ne : same_key k l ≡ false = other_key (same_key k l) (is_stored done) e h in
    (renewed_other c x l value flags m o s k own ne, found_other None o l k own ne)

-- ---- lookups and what follows them

-- a part behind which the index stays as it is
one_part : (k : List ℕ) (own : Bool) (p : Part) (s t : State) (rs : List Removal) (r : State × Outcome) → Goes (cause_by p) k s t rs → r.0.index ≡ t.index → Walked k own s (then p t []) rs r
one_part k own p s t rs r g e = (rs, [], sym (append-nil rs), g, ends_same k own t r e)

clear_walk : (k : List ℕ) (own : Bool) (s : State) → Indexed s → (p : Part) (c : Cause) → ((a : Bool) → c ≡ cause_by p a) → (l : List ℕ) (r : State × Outcome) → r.0.index ≡ (removed (lookup s l).1 (lookup s l).0).index
    → Walked k own s (clear_stages p s l) (clear_removals (Some c) s l) r
clear_walk k own s d p c e l r same =
    let look = look_goes k s d l in (
      look_removals s l,
      found_removals (Some c) (lookup s l).1,
      refl,
      look,
      one_part k own p (lookup s l).0 (removed (lookup s l).1 (lookup s l).0) (found_removals (Some c) (lookup s l).1) r
          (cleared_goes (cause_by p) c k (lookup s l).0 look.indexed e (lookup s l).1 (λ x i f. (found_is s l d x i f).there)) same,
    )

failed_walk : (k : List ℕ) (own : Bool) (s : State) → Indexed s → (v : Verb) (l : List ℕ) (o : Outcome) → Walked k own s (failed_stages v s l) (failed_removals v s l) (failed v l o s)
failed_walk k own s d Sets l o = clear_walk k own s d ByFailedSet DroppedByFailedSet (λ a. refl) l (failed Sets l o s) refl
failed_walk k own s d Adds l o = ends_same k own s (s, o) refl
failed_walk k own s d Replaces l o = ends_same k own s (s, o) refl
failed_walk k own s d (Cases n) l o = ends_same k own s (s, o) refl

-- ---- set, add, replace, cas

settled_ends : (k : List ℕ) (c : ℕ) (x : ChunkRef) (l value : List ℕ) (flags : ℕ) (e : ℤ) (s : State) (o : Option (ChunkRef × PlainItem)) → IsOf l o → (r : Option Outcome) → Ends k (same_key k l) s (settled_removals o r) (settled_by c x l value flags e (s, o) r)
settled_ends k c x l value flags e s o own None = renewed_ends k c x l value flags (moment s.globals.clock e) outcome.Stored s o own refl
settled_ends k c x l value flags e s o own (Some r) = ends_same k (same_key k l) s (settled_by c x l value flags e (s, o) (Some r)) refl

store_room_walk : (k : List ℕ) (s : State) (v : Verb) (c : ℕ) (l value : List ℕ) (flags : ℕ) (e : ℤ) (rs : List Removal) (r : State × Option ChunkRef) → Goes (cause_by ByRoom) k s r.0 rs → Walked k (same_key k l) s (room_stages v l r) (rs ++ after_room v l r) (stored_room v c l value flags e r)
store_room_walk k s v c l value flags e rs (t, None) g = (rs, failed_removals v t l, refl, g, failed_walk k (same_key k l) t g.indexed v l outcome.NoChunk)
store_room_walk k s v c l value flags e rs (t, Some x) g =
    let look = look_goes k t g.indexed l in (
      rs,
      look_removals t l ++ settled_removals (lookup t l).1 (refusal v (lookup t l).1),
      refl,
      g,
      (
        look_removals t l,
        settled_removals (lookup t l).1 (refusal v (lookup t l).1),
        refl,
        look,
        settled_ends k c x l value flags e (lookup t l).0 (lookup t l).1 (λ y i f. (found_is t l g.indexed y i f).key) (refusal v (lookup t l).1),
      ),
    )

store_in_walk : (k : List ℕ) (s : State) → Indexed s → (v : Verb) (c : ℕ) (l value : List ℕ) (flags : ℕ) (e : ℤ) → Walked k (same_key k l) s (store_in_stages s v c l) (store_in_removals s v c l) (stored_room v c l value flags e (room s c))
unfolding store_in_stages store_in_removals
store_in_walk k s d v c l value flags e = store_room_walk k s v c l value flags e (room_removals s c) (room s c) (room_goes k s c d)

store_walk : (k : List ℕ) (s : State) → Indexed s → (v : Verb) (l value : List ℕ) (flags : ℕ) (e : ℤ) (o : Option ℕ) → Walked k (same_key k l) s (store_stages s v l o) (stored_removals s v l o) (stored_class s v l value flags e o)
store_walk k s d v l value flags e None = failed_walk k (same_key k l) s d v l outcome.TooLarge
store_walk k s d v l value flags e (Some c) = store_in_walk k s d v c l value flags e

-- ---- append, prepend, incr, decr

rewritten_ends : (k : List ℕ) (c : ℕ) (x : ChunkRef) (l value : List ℕ) (flags m : ℕ) (gone done : Outcome) (s : State) (o : Option (ChunkRef × PlainItem)) → IsOf l o → is_stored done ≡ true → Ends k (same_key k l) s (found_removals None o) (rewritten_old c x l value flags m gone done (s, o))
rewritten_ends k c x l value flags m gone done s None own e = ends_same k (same_key k l) s (rewritten_old c x l value flags m gone done (s, None)) refl
rewritten_ends k c x l value flags m gone done s (Some f) own e = renewed_ends k c x l value flags m done s (Some f) own e

rewrite_room_walk : (k : List ℕ) (s : State) (c : ℕ) (l value : List ℕ) (flags m : ℕ) (gone done : Outcome) → is_stored done ≡ true → (rs : List Removal) (r : State × Option ChunkRef) → Goes (cause_by ByRoom) k s r.0 rs
    → Walked k (same_key k l) s (rewrite_room_stages l r) (rs ++ after_rewrite l r) (rewritten_room c l value flags m gone done r)
rewrite_room_walk k s c l value flags m gone done e rs (t, None) g = (rs, [], refl, g, ends_same k (same_key k l) t (t, outcome.NoChunk) refl)
rewrite_room_walk k s c l value flags m gone done e rs (t, Some x) g =
    let look = look_goes k t g.indexed l in (
      rs,
      clear_removals None t l,
      refl,
      g,
      (
        look_removals t l,
        found_removals None (lookup t l).1,
        refl,
        look,
        rewritten_ends k c x l value flags m gone done (lookup t l).0 (lookup t l).1 (λ y i f. (found_is t l g.indexed y i f).key) e,
      ),
    )

rewrite_in_walk : (k : List ℕ) (s : State) → Indexed s → (c : ℕ) (l value : List ℕ) (flags m : ℕ) (gone done : Outcome) → is_stored done ≡ true → Walked k (same_key k l) s (rewrite_in_stages s c l) (rewrite_in_removals s c l) (rewritten_room c l value flags m gone done (room s c))
unfolding rewrite_in_stages rewrite_in_removals
rewrite_in_walk k s d c l value flags m gone done e = rewrite_room_walk k s c l value flags m gone done e (room_removals s c) (room s c) (room_goes k s c d)

rewrite_class_walk : (k : List ℕ) (s : State) → Indexed s → (l value : List ℕ) (flags m : ℕ) (gone done : Outcome) → is_stored done ≡ true → (o : Option ℕ) → Walked k (same_key k l) s (rewrite_class_stages s l o) (rewritten_removals s l o) (rewritten_class s l value flags m gone done o)
rewrite_class_walk k s d l value flags m gone done e None = ends_same k (same_key k l) s (s, outcome.TooLarge) refl
rewrite_class_walk k s d l value flags m gone done e (Some c) = rewrite_in_walk k s d c l value flags m gone done e

-- of the item of the key l
rewrite_walk : (k : List ℕ) (s : State) → Indexed s → (l : List ℕ) (i : PlainItem) → i.key ≡ l → (p : Payload) (gone done : Outcome) → is_stored done ≡ true → Walked k (same_key k l) s (rewrite_stages s i p) (rewrite_removals s i p) (rewritten s i p gone done)
rewrite_walk k s d l i own p gone done e =
    subst (λ m. Walked k (same_key k m) s (rewrite_stages s i p) (rewrite_removals s i p) (rewritten s i p gone done)) own
    (rewrite_class_walk k s d i.key (bytes_of p) i.flags i.moment gone done e (class_for s i.key i.flags p))

join_walk : (k l : List ℕ) (side : Side) (p : Payload) (s : State) (o : Option (ChunkRef × PlainItem)) → IsOf l o → Indexed s → Walked k (same_key k l) s (join_found_stages side p (s, o)) (join_found_removals side p (s, o)) (join_found side p (s, o))
join_walk k l side p s None own d = ends_same k (same_key k l) s (s, outcome.NotStored) refl
join_walk k l side p s (Some (x, i)) own d = rewrite_walk k s d l i (own x i refl) (joined side i.value p) outcome.NotStored outcome.Stored refl

count_walk : (k l : List ℕ) (side : Sum) (n : ℕ) (s : State) (o : Option (ChunkRef × PlainItem)) → IsOf l o → Indexed s → Walked k (same_key k l) s (count_found_stages side n (s, o)) (count_found_removals side n (s, o)) (count_found side n (s, o))
count_walk k l side n s None own d = ends_same k (same_key k l) s (s, outcome.NotFound) refl
count_walk k l side n s (Some (x, i)) own d = go (is_number i.value) where
  go : (b : Bool) → Walked k (same_key k l) s (cond b (rewrite_stages s i (Bytes (decimal (summed side (digits_from 0 i.value) n)))) []) (cond b (rewrite_removals s i (Bytes (decimal (summed side (digits_from 0 i.value) n)))) []) (cond b (count_as s i (summed side (digits_from 0 i.value) n)) (s, outcome.NotNumber))
  go true = rewrite_walk k s d l i (own x i refl) (Bytes (decimal (summed side (digits_from 0 i.value) n))) outcome.NotFound (outcome.Number (summed side (digits_from 0 i.value) n)) refl
  go false = ends_same k (same_key k l) s (s, outcome.NotNumber) refl

-- ---- get, touch, delete, ~evict, flush_all

hit_again_index : (s : State) (q : Queue) (x : ChunkRef) (i : PlainItem) → (hit_again s q x i).index ≡ s.index
hit_again_index s Hot x i = refl
hit_again_index s Warm x i = refl
hit_again_index s Temp x i = refl
hit_again_index s Cold x i = go (nat_lt (length s.bump) s.fixed.bump_room) where
  go : (b : Bool) → (cond b (with_item x (record i { bits = record i.bits { active = true } }) (record s { bump = s.bump ++ record { chunk = x; cas = i.cas } ∷ [] })) s).index ≡ s.index
  go true = refl
  go false = refl

hit_index : (s : State) (x : ChunkRef) (i : PlainItem) → (hit s x i).index ≡ s.index
hit_index s x i = go i.bits.active i.bits.fetched where
  go : (a b : Bool) → (cond a s (cond b (hit_again s (queue_with s (owner_of s x.page) x) x i) (with_item x (record i { bits = record i.bits { fetched = true } }) s))).index ≡ s.index
  go true b = refl
  go false true = hit_again_index s (queue_with s (owner_of s x.page) x) x i
  go false false = refl

get_index : (s : State) (o : Option (ChunkRef × PlainItem)) → (get_found (s, o)).0.index ≡ s.index
get_index s None = refl
get_index s (Some (x, i)) = hit_index s x i

until_index : (m : ℕ) (x : ChunkRef) (o : Option PlainItem) (s : State) → (until m x o s).index ≡ s.index
until_index m x None s = refl
until_index m x (Some i) s = refl

touch_index : (e : ℤ) (s : State) (o : Option (ChunkRef × PlainItem)) → (touch_found e (s, o)).0.index ≡ s.index
touch_index e s None = refl
touch_index e s (Some (x, i)) = until_index (moment s.globals.clock e) x (item_at (hit s x i) x) (hit s x i) ∙ hit_index s x i

look_walk : (k : List ℕ) (s : State) → Indexed s → (l : List ℕ) (r : State × Outcome) → r.0.index ≡ (lookup s l).0.index → Walked k false s (lookup_stages s l) (look_removals s l) r
look_walk k s d l r e = one_part k false ByLookup s (lookup s l).0 (look_removals s l) r (look_goes k s d l) e

delete_index : (s : State) (o : Option (ChunkRef × PlainItem)) → (delete_found (s, o)).0.index ≡ (removed o s).index
delete_index s None = refl
delete_index s (Some f) = refl

evict_index : (s : State) (o : Option (ChunkRef × PlainItem)) → (evict_found (s, o)).0.index ≡ (removed o s).index
evict_index s None = refl
evict_index s (Some (x, i)) = refl

-- where a key leads, the item stands
led_there : (s : State) (o : Option ChunkRef) (x : ChunkRef) (i : PlainItem) → item_led_to s o ≡ Some (x, i) → item_at s x ≡ Some i
led_there s None x i e = absurd (false≢true (ap is_some e))
led_there s (Some y) x i e = go (item_at s y) refl e where
  go : (o : Option PlainItem) → item_at s y ≡ o → option_map {U = ChunkRef × PlainItem} (λ j. (y, j)) o ≡ Some (x, i) → item_at s x ≡ Some i
  go None f h = absurd (false≢true (ap is_some h))
  go (Some j) f h = subst (λ (p : ChunkRef × PlainItem). item_at s p.0 ≡ Some p.1) (some_pair (y, j) (x, i) h) f

evict_walk : (k : List ℕ) (s : State) → Indexed s → (o : Option (ChunkRef × PlainItem)) → ((x : ChunkRef) (i : PlainItem) → o ≡ Some (x, i) → item_at s x ≡ Some i)
    → Walked k false s (then ByEvict (removed o s) []) (found_removals (Some Evicted) o) (evict_found (s, o))
evict_walk k s d o there = one_part k false ByEvict s (removed o s) (found_removals (Some Evicted) o) (evict_found (s, o)) (cleared_goes (cause_by ByEvict) Evicted k s d (λ a. refl) o there) (evict_index s o)

flush_index : (s : State) (m : ℕ) → (flush_at s m).index ≡ s.index
flush_index s m = go (nat_le m s.globals.clock) where
  go : (b : Bool) → (cond b (record s { globals = record s.globals { flush_limit = s.globals.last_cas; flush = None } }) (record s { globals = record s.globals { flush = Some m } })).index ≡ s.index
  go true = refl
  go false = refl

client_walk : (k : List ℕ) (s : State) → Indexed s → (e : ClientStep) → Walked k (is_key k (key_to_store (Client e))) s (client_stages s e) (client_removals s e) (client s e)
client_walk k s d (Stores v l flags e p) = store_walk k s d v l (bytes_of p) flags e (class_for s l flags p)
client_walk k s d (Joins side l p) =
    let look = look_goes k s d l in
    (look_removals s l, join_found_removals side p (lookup s l), refl, look, join_walk k l side p (lookup s l).0 (lookup s l).1 (λ x i f. (found_is s l d x i f).key) look.indexed)
client_walk k s d (Gets l) = look_walk k s d l (get_found (lookup s l)) (get_index (lookup s l).0 (lookup s l).1)
client_walk k s d (Touches l e) = look_walk k s d l (touch_found e (lookup s l)) (touch_index e (lookup s l).0 (lookup s l).1)
client_walk k s d (Deletes l) = clear_walk k false s d ByDelete Deleted (λ a. refl) l (delete_found (lookup s l)) (delete_index (lookup s l).0 (lookup s l).1)
client_walk k s d (Evicts l) = evict_walk k s d (item_led_to s (find s l)) (led_there s (find s l))
client_walk k s d (Flushes n) = ends_same k false s (client s (Flushes n)) (flush_index s (flush_moment s.globals.clock n))
client_walk k s d (Counts side l n) =
    let look = look_goes k s d l in
    (look_removals s l, count_found_removals side n (lookup s l), refl, look, count_walk k l side n (lookup s l).0 (lookup s l).1 (λ x i f. (found_is s l d x i f).key) look.indexed)

-- ---- the actors

pull_step_goes : (k : List ℕ) (s : State) → Indexed s → (c : ℕ) (q : Queue) → Goes (cause_by ByPull) k s (step s (Pull c q)).0 (pull_step_removals s c q)
pull_step_goes k s d c q =
    goes_cond (cause_by ByPull) k s (pull_removals s c q Plain) [] (is_class s c) (pull s c q Plain) (s, outcome.BadClass)
    (pull_goes (cause_by ByPull) k s d c q Plain record { dead = refl; live = λ e. absurd (false≢true e) })
    (goes_stays (cause_by ByPull) k s s d (stays s))

crawl_item_goes : (k : List ℕ) (s : State) → Indexed s → (c : ℕ) (q : Queue) (x : ChunkRef) (o : Option PlainItem) → item_at s x ≡ o → Goes (cause_by ByCrawl) k s (crawl_item s c q x o).0 (crawl_item_removals s o)
crawl_item_goes k s d c q x None e = goes_stays (cause_by ByCrawl) k s s d (stays s)
crawl_item_goes k s d c q x (Some i) e =
    let dead : State × Outcome = (counted c counter.CrawlerReclaimed (dropped c q x i s), outcome.Reclaimed) in
    let live : State × Outcome = (passed s c q (Chunk x) (without same_entry Mark (queue_of s c q)), outcome.Passed) in
    goes_cond (cause_by ByCrawl) k s (removal (Some i) (Some ReclaimedByCrawler)) [] (is_dead s.globals i) dead live
    (goes_drops (cause_by ByCrawl) k s dead.0 x i ReclaimedByCrawler d record { there = e; content = refl; index = refl; clock = refl; flush_limit = refl } refl)
    (goes_stays (cause_by ByCrawl) k s live.0 d record { content = refl; index = refl; clock = refl; flush_limit = refl })

crawl_entry_goes : (k : List ℕ) (s : State) → Indexed s → (c : ℕ) (q : Queue) (o : Option Entry) → Goes (cause_by ByCrawl) k s (crawl_entry s c q o).0 (crawl_entry_removals s o)
crawl_entry_goes k s d c q None = goes_stays (cause_by ByCrawl) k s (crawl_entry s c q None).0 d record { content = refl; index = refl; clock = refl; flush_limit = refl }
crawl_entry_goes k s d c q (Some (Chunk x)) = crawl_item_goes k s d c q x (item_at s x) refl
crawl_entry_goes k s d c q (Some Mark) = goes_stays (cause_by ByCrawl) k s s d (stays s)

crawl_goes : (k : List ℕ) (s : State) → Indexed s → (c : ℕ) (q : Queue) → Goes (cause_by ByCrawl) k s (step s (Crawl c q)).0 (crawl_removals s c q)
crawl_goes k s d c q =
    let still : Goes (cause_by ByCrawl) k s s [] = goes_stays (cause_by ByCrawl) k s s d (stays s) in
    let entry = before same_entry Mark (queue_of s c q) in
    let rs = crawl_entry_removals s entry in
    let marked = has same_entry Mark (queue_of s c q) in
    goes_cond (cause_by ByCrawl) k s (cond marked rs []) [] (is_class s c) (cond marked (crawl_entry s c q entry) (s, outcome.Idle)) (s, outcome.BadClass)
    (goes_cond (cause_by ByCrawl) k s rs [] marked (crawl_entry s c q entry) (s, outcome.Idle) (crawl_entry_goes k s d c q entry) still)
    still

-- a chunk of a free list holds no item
spare_free : (p : ℕ) (l : List ChunkRef) (y : ChunkRef) → spare p l ≡ Some y → has same_chunk y l ≡ true
spare_free p [] y e = absurd (false≢true (ap is_some e))
spare_free p (x ∷ xs) y e = go (λ f. spare_free p xs y f) (nat_eq x.page p) refl where
  more : (b : Bool) → has same_chunk y xs ≡ true → cond b true (has same_chunk y xs) ≡ true
  more true h = refl
  more false h = h

  go : (spare p xs ≡ Some y → has same_chunk y xs ≡ true) → (b : Bool) → nat_eq x.page p ≡ b → has same_chunk y (x ∷ xs) ≡ true
  go later true f = more (same_chunk y x) (later (ap (λ b. cond b (spare p xs) (Some x)) (sym f) ∙ e))
  go later false f =
      let same : Some x ≡ Some y = ap (λ b. cond b (spare p xs) (Some x)) (sym f) ∙ e in
      let own : x ≡ y = cc in
      ap (λ b. cond b true (has same_chunk y xs)) (ap (same_chunk y) own ∙ tells_chunk.self y)

empty_item : (o : Option PlainItem) → (is_some o ≡ true → ⊥) → o ≡ None
empty_item None h = refl
empty_item (Some i) h = absurd (h refl)

spare_empty : (s : State) → WellFormed s → (p c : ℕ) (y : ChunkRef) → spare p (free_of s c) ≡ Some y → item_at s y ≡ None
spare_empty s well p c y e = empty_item (item_at s y) (λ h. false≢true (sym ((well.filled.items y h).1 c) ∙ spare_free p (free_of s c) y e))

rescue_goes : (k : List ℕ) (s : State) → Indexed s → (m : Mover) (c : ℕ) (x : ChunkRef) (i : PlainItem) → item_at s x ≡ Some i → is_dead s.globals i ≡ false → (o : Option ChunkRef) → ((y : ChunkRef) → o ≡ Some y → item_at s y ≡ None) → Goes (cause_by ByAdvance) k s (next_slot m (rescued s c x i o)).0 (rescue_removals i o)
rescue_goes k s d m c x i e l None h =
    goes_drops (cause_by ByAdvance) k s (next_slot m (rescued s c x i None)).0 x i EvictedByMover d record { there = e; content = refl; index = refl; clock = refl; flush_limit = refl } (ap (λ b. cause_by ByAdvance (not b)) (sym l))
rescue_goes k s d m c x i e l (Some y) h =
    goes_carries (cause_by ByAdvance) k s (next_slot m (rescued s c x i (Some y))).0 x y i d record { there = e; empty = h y refl; content = refl; index = refl; clock = refl; flush_limit = refl }

cleared_item_goes : (k : List ℕ) (s : State) → Indexed s → WellFormed s → (m : Mover) (c : ℕ) (x : ChunkRef) (o : Option PlainItem) → item_at s x ≡ o → Goes (cause_by ByAdvance) k s (next_slot m (cleared s c x o)).0 (cleared_removals s c x o)
cleared_item_goes k s d well m c x None e = goes_stays (cause_by ByAdvance) k s (next_slot m (cleared s c x None)).0 d record { content = refl; index = refl; clock = refl; flush_limit = refl }
cleared_item_goes k s d well m c x (Some i) e = go (is_dead s.globals i) refl where
  go : (b : Bool) → is_dead s.globals i ≡ b → Goes (cause_by ByAdvance) k s (next_slot m (cond b (counted c counter.Reclaimed (unlinked c (queue_with s c x) x i s), outcome.Reclaimed) (rescued s c x i (spare x.page (free_of s c))))).0 (cond b (removal (Some i) (Some ReclaimedByMover)) (rescue_removals i (spare x.page (free_of s c))))
  go true f =
      goes_drops (cause_by ByAdvance) k s (next_slot m (counted c counter.Reclaimed (unlinked c (queue_with s c x) x i s), outcome.Reclaimed)).0 x i ReclaimedByMover d record { there = e; content = refl; index = refl; clock = refl; flush_limit = refl } (ap (λ b. cause_by ByAdvance (not b)) (sym f))
  go false f = rescue_goes k s d m c x i e f (spare x.page (free_of s c)) (λ y g. spare_empty s well x.page c y g)

stays_either : (s t u : State) (b : Bool) → Stays s t → Stays s u → Stays s (cond b t u)
stays_either s t u true h g = h
stays_either s t u false h g = g

handed_stays : (s : State) (m : Mover) → Stays s (handed m s)
handed_stays s m =
    stays_either s
    (record s { owner = slice_set s.owner m.page 0; globals = record s.globals { mover = None } })
    (record s { owner = slice_set s.owner m.page m.dst; free = slice_set s.free m.dst (falling m.page (per_page s.fixed m.dst) ++ free_of s m.dst); globals = record s.globals { mover = None } })
    (nat_eq m.dst 0)
    record { content = refl; index = refl; clock = refl; flush_limit = refl }
    record { content = refl; index = refl; clock = refl; flush_limit = refl }

advance_goes : (k : List ℕ) (s : State) → Indexed s → WellFormed s → (o : Option Mover) → Goes (cause_by ByAdvance) k s (advance_of s o).0 (advance_removals_of s o)
advance_goes k s d well None = goes_stays (cause_by ByAdvance) k s s d (stays s)
advance_goes k s d well (Some m) =
    let x : ChunkRef = record { page = m.page; slot = m.slot } in
    goes_cond (cause_by ByAdvance) k s [] (cleared_removals s m.src x (item_at s x)) (nat_eq m.slot (per_page s.fixed m.src)) (handed m s, outcome.Finished) (next_slot m (cleared s m.src x (item_at s x)))
    (goes_stays (cause_by ByAdvance) k s (handed m s) d (handed_stays s m))
    (cleared_item_goes k s d well m m.src x (item_at s x) refl)

-- ---- steps that take nothing out

bump_index : (s : State) (bs : List BumpEntry) → (bump_from s bs).0.index ≡ s.index
bump_index s [] = refl
bump_index s (b ∷ bs) = go (item_at s b.chunk) where
  u : State
  u = record s { bump = bs }

  go : (o : Option PlainItem) → (bump_item b.chunk b.cas o (record s { bump = bs })).0.index ≡ s.index
  go None = refl
  go (Some i) = index_either s (nat_eq i.cas b.cas && (i.bits.active && has same_entry (Chunk b.chunk) (queue_of (record s { bump = bs }) (owner_of s b.chunk.page) Cold)))
      (counted (owner_of s b.chunk.page) counter.MovesToWarm (with_item b.chunk (record i { bits = record i.bits { active = false }; time = s.globals.clock }) (headed (owner_of s b.chunk.page) Cold Warm b.chunk (record s { bump = bs }))), outcome.Moved)
      (record s { bump = bs }, outcome.Idle) refl refl

scheduled_index : (s : State) (src dst : ℕ) (o : Option ℕ) → (scheduled s src dst o).0.index ≡ s.index
scheduled_index s src dst None = refl
scheduled_index s src dst (Some p) = index_either s (nat_lt (owned_pages src s.owner) 2) (s, outcome.NoSpare) (with_globals (record s.globals { mover = Some record { src = src; dst = dst; page = p; slot = 0 } }) s, outcome.Okay) refl refl

step_walk : (k : List ℕ) (s : State) → Indexed s → WellFormed s → (e : Step) → Walked k (is_key k (key_to_store e)) s (stages s e) (step_removals s e) (step s e)
step_walk k s d well (Client e) = client_walk k s d e
step_walk k s d well (Pull c q) = one_part k false ByPull s (step s (Pull c q)).0 (pull_step_removals s c q) (step s (Pull c q)) (pull_step_goes k s d c q) refl
step_walk k s d well Bump = ends_same k false s (step s Bump) (bump_index s s.bump)
step_walk k s d well (CrawlStart set) = ends_same k false s (step s (CrawlStart set))
    (index_either s (names_other 64 s set) (s, outcome.BadClass) (cond (is_busy 64 s set) (s, outcome.Busy) (record s { queues = marked (names s set) 0 s.queues }, outcome.Okay)) refl
    (index_either s (is_busy 64 s set) (s, outcome.Busy) (record s { queues = marked (names s set) 0 s.queues }, outcome.Okay) refl refl))
step_walk k s d well (Crawl c q) = one_part k false ByCrawl s (step s (Crawl c q)).0 (crawl_removals s c q) (step s (Crawl c q)) (crawl_goes k s d c q) refl
step_walk k s d well (Schedule src dst) = ends_same k false s (step s (Schedule src dst))
    (index_either s (is_some s.globals.mover) (s, outcome.Busy) (cond (nat_eq src dst) (s, outcome.Same) (cond (is_class s src && nat_le dst (last_class s)) (scheduled s src dst (lowest_page s src)) (s, outcome.BadClass))) refl
    (index_either s (nat_eq src dst) (s, outcome.Same) (cond (is_class s src && nat_le dst (last_class s)) (scheduled s src dst (lowest_page s src)) (s, outcome.BadClass)) refl
    (index_either s (is_class s src && nat_le dst (last_class s)) (scheduled s src dst (lowest_page s src)) (s, outcome.BadClass) (scheduled_index s src dst (lowest_page s src)) refl)))
step_walk k s d well Advance = one_part k false ByAdvance s (step s Advance).0 (advance_removals s) (step s Advance) (advance_goes k s d well s.globals.mover) refl
step_walk k s d well (Clock n) = ends_same k false s (step s (Clock n)) (index_either s (nat_lt n s.globals.clock) (s, outcome.Idle) (with_globals (at_clock n s.globals) s, outcome.Okay) refl refl)
step_walk k s d well (Tune hot warm f g) = ends_same k false s (step s (Tune hot warm f g)) refl
step_walk k s d well (TempTtl n) = ends_same k false s (step s (TempTtl n)) refl

and_true : (b : Bool) → b && true ≡ b
and_true true = refl
and_true false = refl

and_false : (b : Bool) → b && false ≡ false
and_false true = refl
and_false false = refl

-- what becomes of a key that the step does not store
pub step_leaves : (s : State) → Sound s → (e : Step) (k : List ℕ) → stores s e k ≡ false → Leaves k s (step s e).0 (step_removals s e) (cause_of s e k)
step_leaves s sound e k h =
    let d : Indexed s = indexed_sound None s sound in
    walked_leaves k (is_key k (key_to_store e)) s (stages s e) (step_removals s e) (step s e) (alive s k) d (λ b f. sym (fate-alive s k b f)) (step_walk k s d sound.well e)
    (sym (key_stored (is_stored (step s e).1)) ∙ h)
  where
    key_stored : (b : Bool) → is_key k (cond b (key_to_store e) None) ≡ is_key k (key_to_store e) && b
    key_stored true = sym (and_true (is_key k (key_to_store e)))
    key_stored false = sym (and_false (is_key k (key_to_store e)))

-- the first removal of the key tells the cause
pub record Caused (k : List ℕ) (rs : List Removal) (cause : Option Cause) : Type 0 where
  pub by : Cause
  pub is : cause ≡ Some by
  pub told : first_removal k rs ≡ Some (Some by)

left_caused : (k : List ℕ) (s t : State) (rs : List Removal) (cause : Option Cause) → held s k ≡ true → held t k ≡ false → Leaves k s t rs cause → Caused k rs cause
left_caused k s t rs cause h gone (stays_so e n) = absurd (false≢true (sym gone ∙ e ∙ h))
left_caused k s t rs cause h gone (leaves c was g n is) = record { by = c; is = is; told = key_removals-first k rs (record { key = k; note = Some c }) [] n }

unstored : (s : State) → Indexed s → (e : Step) (k : List ℕ) → held (step s e).0 k ≡ false → stores s e k ≡ false
unstored s d e k gone = go (stores s e k) refl where
  go : (b : Bool) → stores s e k ≡ b → b ≡ false
  go true f = absurd (false≢true (sym gone ∙ stored_held s d e k f))
  go false f = refl

-- where a key leaves the index, the removals that the step's record tells give its cause
pub step_caused : (s : State) → Sound s → (e : Step) (k : List ℕ) → held s k ≡ true → held (step s e).0 k ≡ false → Caused k (step_removals s e) (cause_of s e k)
step_caused s sound e k h gone =
    left_caused k s (step s e).0 (step_removals s e) (cause_of s e k) h gone (step_leaves s sound e k (unstored s (indexed_sound None s sound) e k gone))
