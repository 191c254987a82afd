-- What a record tells of removals, and what the way of `departures` up to the root keeps.
use Rattle.std.specs.Prelude.{ℕ, ◌≡◌, ◌+◌, ◌-◌, ◌<◌, ◌≤◌, ◌⊎◌, Bool, true, false, cond, ◌&&◌, ◌==◌, List, [], ◌∷◌, ◌++◌, Option, None, Some, is_some, length, drop, reverse, slice_index_or, take, refl}
use Rattle.std.proofs.Common.{sym, ◌∙◌, ap, arith, inl, inr, subst}
use Rattle.std.proofs.lemmas.List.Elements.{filter-append, filter_map-append}
use Rattle.std.proofs.lemmas.Bool.{false≢true, leb-true}
use Rattle.std.proofs.lemmas.List.{reverse-append, reverse-reverse, append_assoc, append-nil, take-append-le, take-append-drop, drop_all}
use Rattle.rev_items.specs.Plain.{PlainItem}
use Rattle.rev_model.specs.State.{State, item_at, find, queue_number}
use Rattle.rev_model.specs.Sound.{Sound}
use Rattle.rev_model.specs.Actor.{Step, step}
use Rattle.rev_model.specs.Causes.{step_removals}
use Rattle.rev_model.specs.Events.{is_key, stored_key, stores, cause_of, stored_event, moved_event, other_event, event_by, event}
use Rattle.rev_model.specs.Move.{Move, Fills, Takes, moved, turned}
use Rattle.rev_model.specs.declared.Listed.TheVariants.{InFree}
use Rattle.rev_model.specs.Track.{Removal, removal, removals, held, same_key, key_place_at, key_place_of, class_queue_of}
use Rattle.rev_model.specs.declared.EventKind.{EventKind}
use Rattle.rev_model.specs.declared.EventKind.TheVariants as kind
use Rattle.rev_model.specs.declared.ClassQueue.{ClassQueue}
use Rattle.rev_model.specs.declared.KeyPlace.{KeyPlace}
use Rattle.rev_model.proofs.Track.{key_removals}
use Rattle.rev_model.proofs.Stages.{Leaves, stays_so, leaves}
use Rattle.rev_model.proofs.Walks.{step_leaves}
use Rattle.rev_model.specs.declared.ChunkRef.{ChunkRef}
use Rattle.rev_model.specs.declared.Cause.{Cause}
use Rattle.rev_model.specs.declared.Outcome.{Outcome}
use Rattle.rev_model.proofs.Laws.{get_put, same_key-exact}
use Rattle.rev_model.proofs.Undo.{same_chunk-self}
use Rattle.rev_inverse.specs.Record.{PlainChange, PlainRecord, IsWhole, plain_change, moves_in, notes_in}
use Rattle.rev_inverse.specs.Seen.{plain_moves, plain_notes}
use Rattle.rev_inverse.specs.declared.changes.Change as kept
use Rattle.rev_inverse.specs.declared.changes.Change.TheVariants as stored
use Rattle.rev_tree.specs.Steps.{outcome_of}
use Rattle.rev_tree.specs.Rows.{Row, row_of, at}
use Rattle.rev_tree.specs.Machine.{lineage}
use Rattle.rev_tree.specs.Positions.{SessionState}
use Rattle.rev_tree.specs.Trails.{Trailed}
use Rattle.rev_explain.specs.Readings.{removals_by}
use Rattle.rev_explain.specs.Departures.{PlainDeparture, departure, departures_in, departures_at, row_departures, departures_along, departures, is_enough, at_most, last_of}
use Rattle.rev_explain.specs.Told.{told_by, story_departures, key_departures, Rise, AreTold}
use Rattle.rev_explain.specs.Story.{told, events_along, story}
use Rattle.rev_explain.specs.declared.events.Event.{Event}
use Rattle.rev_explain.proofs.MoveLaws.{drop_at}
use Rattle.rev_explain.proofs.Climbs.{Climbs, climb_starts, climbs, lineage_above, node_is, row_is, story_more, at_end}

-- ---- a change of a record

filled : (x : ChunkRef) (o : Option PlainItem) (s : State) → item_at (moved (Fills x o) s) x ≡ o
filled x o s = get_put s x o x ∙ ap (λ b. cond b o (item_at s x)) (same_chunk-self x)

-- the removals that a change tells, and those of the changes behind it
removals-through : {A : Type 0} → (m : kept.Change A) (ms : List Move) (ns : List (Option Cause)) (t : State) → removals (plain_moves m ++ ms) (plain_notes m ++ ns) t ≡ removals_by m ++ removals ms ns t
removals-through (stored.Enter q n x c i a) ms ns t = ap (λ o. removal o n ++ removals ms ns t) (filled x (Some i) (turned ms t).0)
removals-through (stored.Link q c x i a n) ms ns t = ap (λ o. removal o None ++ removals ms ns t) (filled x (Some i) (turned ms t).0)
removals-through (stored.Revive q n x c i a) ms ns t =
    ap (λ o. removal o n ++ removals ms ns t) (filled x (Some i) (turned (Takes (InFree c x) ∷ ms) t).0)
removals-through (stored.Leave q n x c u) ms ns t = refl
removals-through (stored.Unlink q c x u n) ms ns t = refl
removals-through (stored.Free q n x c b) ms ns t = refl
removals-through (stored.Requeue c a x p q) ms ns t = refl
removals-through (stored.Take l) ms ns t = refl
removals-through (stored.Put l) ms ns t = refl
removals-through (stored.Touch y v) ms ns t = refl
removals-through (stored.Shift a b) ms ns t = refl
removals-through (stored.Lay p c n f) ms ns t = refl
removals-through (stored.Lift p f h) ms ns t = refl
removals-through (stored.Count c j v) ms ns t = refl
removals-through (stored.LastCas n) ms ns t = refl
removals-through (stored.Timing v) ms ns t = refl
removals-through (stored.Mover m) ms ns t = refl
removals-through (stored.Settings w) ms ns t = refl
removals-through (stored.BumpIn b) ms ns t = refl
removals-through stored.BumpBack ms ns t = refl
removals-through stored.BumpOut ms ns t = refl
removals-through (stored.BumpFront b) ms ns t = refl
removals-through (stored.Marks set) ms ns t = refl
removals-through (stored.Unmarks set) ms ns t = refl

-- what the changes from the i-th on tell
abbrev pub removals_from : List PlainChange → ℕ → State → List Removal
removals_from gs i t = removals (moves_in (drop i gs)) (notes_in (drop i gs)) t

pub removals_next : {A : Type 0} → (gs : List PlainChange) (i : ℕ) (m : kept.Change A) (t : State) → i < length gs → plain_change m ≡ slice_index_or gs i (plain_change m) → removals_from gs i t ≡ removals_by m ++ removals_from gs (i + 1) t
removals_next gs i m t lt e =
    ap (λ l. removals (moves_in l) (notes_in l) t) (drop_at gs i (plain_change m) lt e)
    ∙ removals-through m (moves_in (drop (i + 1) gs)) (notes_in (drop (i + 1) gs)) t

pub removals_end : (gs : List PlainChange) (i : ℕ) (t : State) → length gs ≤ i → removals_from gs i t ≡ []
removals_end gs i t le = ap (λ l. removals (moves_in l) (notes_in l) t) (drop_all i gs le)

pub removals_whole : (r : PlainRecord) (t : State) → IsWhole r → removals r.moves r.notes t ≡ removals_from r.changes 0 t
removals_whole r t whole = ap (λ l. removals l r.notes t) whole.moves ∙ ap (λ l. removals (moves_in r.changes) l t) whole.notes

-- ---- the departures that a record tells

module _ (n : ℕ) (e : Step) (o : Outcome) where
  departures_in-append : (xs ys : List Removal) → departures_in n e o (xs ++ ys) ≡ departures_in n e o xs ++ departures_in n e o ys
  departures_in-append [] ys = refl
  departures_in-append (r ∷ rs) ys =
      let d = departure n r.key (is_key r.key (stored_key e o)) r.note in
      ap (λ l. departure n r.key (is_key r.key (stored_key e o)) r.note ++ l) (departures_in-append rs ys)
      ∙ sym (append_assoc d (departures_in n e o rs) (departures_in n e o ys))

  -- one, or none, is the same the other way round
  one_turned : (k : List ℕ) (b : Bool) (c : Option Cause) → reverse (departure n k b c ++ []) ≡ departure n k b c ++ []
  one_turned k b None = refl
  one_turned k true (Some c) = refl
  one_turned k false (Some c) = refl

  change_turned : {A : Type 0} → (m : kept.Change A) → reverse (departures_in n e o (removals_by m)) ≡ departures_in n e o (removals_by m)
  change_turned (stored.Enter q j x c i a) = one_turned i.key (is_key i.key (stored_key e o)) j
  change_turned (stored.Link q c x i a j) = refl
  change_turned (stored.Revive q j x c i a) = one_turned i.key (is_key i.key (stored_key e o)) j
  change_turned (stored.Leave q j x c u) = refl
  change_turned (stored.Unlink q c x u j) = refl
  change_turned (stored.Free q j x c b) = refl
  change_turned (stored.Requeue c a x p q) = refl
  change_turned (stored.Take l) = refl
  change_turned (stored.Put l) = refl
  change_turned (stored.Touch y v) = refl
  change_turned (stored.Shift a b) = refl
  change_turned (stored.Lay p c j f) = refl
  change_turned (stored.Lift p f h) = refl
  change_turned (stored.Count c j v) = refl
  change_turned (stored.LastCas j) = refl
  change_turned (stored.Timing v) = refl
  change_turned (stored.Mover m) = refl
  change_turned (stored.Settings w) = refl
  change_turned (stored.BumpIn b) = refl
  change_turned stored.BumpBack = refl
  change_turned stored.BumpOut = refl
  change_turned (stored.BumpFront b) = refl
  change_turned (stored.Marks set) = refl
  change_turned (stored.Unmarks set) = refl

  -- one change more, in front of those whose departures stand behind `old`, the last first
  pub one_more : {A : Type 0} → (m : kept.Change A) (later all : List Removal) (old now more : List PlainDeparture) → all ≡ removals_by m ++ later → now ≡ old ++ reverse (departures_in n e o later)
      → more ≡ now ++ departures_in n e o (removals_by m) → more ≡ old ++ reverse (departures_in n e o all)
  one_more m later all old now more ae ne me =
      let front = departures_in n e o (removals_by m) in
      let back = departures_in n e o later in
      me
      ∙ ap (λ l. l ++ departures_in n e o (removals_by m)) ne
      ∙ append_assoc old (reverse back) front
      ∙ ap (λ l. old ++ (reverse (departures_in n e o later) ++ l)) (sym (change_turned m))
      ∙ ap (λ l. old ++ l) (sym (reverse-append front back))
      ∙ ap (λ l. old ++ reverse l) (sym (departures_in-append (removals_by m) later))
      ∙ ap (λ l. old ++ reverse (departures_in n e o l)) (sym ae)

-- the departures of one more change of a record, before the `start`-th
pub record_more : {A : Type 0} → (n : ℕ) (e : Step) (o : Outcome) (gs : List PlainChange) (start : ℕ) (m : kept.Change A) (t : State) (old now more : List PlainDeparture) → 0 < start → start - 1 < length gs → plain_change m ≡ slice_index_or gs (start - 1) (plain_change m)
    → now ≡ old ++ reverse (departures_in n e o (removals_from gs start t)) → more ≡ now ++ departures_in n e o (removals_by m) → more ≡ old ++ reverse (departures_in n e o (removals_from gs (start - 1) t))
record_more n e o gs start m t old now more pos lt at ne me =
    let up : start - 1 + 1 ≡ start = omega (arith, pos) in
    one_more n e o m (removals_from gs start t) (removals_from gs (start - 1) t) old now more
    (removals_next gs (start - 1) m t lt at ∙ ap (λ i. removals_by m ++ removals_from gs i t) up) ne me

-- past the last change there are none
pub record_past : (n : ℕ) (e : Step) (o : Outcome) (gs : List PlainChange) (start : ℕ) (t : State) (old now : List PlainDeparture) → length gs ≤ start - 1 → now ≡ old ++ reverse (departures_in n e o (removals_from gs start t)) → now ≡ old ++ reverse (departures_in n e o (removals_from gs (start - 1) t))
record_past n e o gs start t old now le ne =
    ne ∙ ap (λ rs. old ++ reverse (departures_in n e o rs)) (removals_end gs start t (omega (arith, le)) ∙ sym (removals_end gs (start - 1) t le))

-- ---- the way up

along_more : (root : State) (rows : List (Option Row)) (l : List ℕ) (n : ℕ) → departures_along root rows (l ++ n ∷ []) ≡ departures_along root rows l ++ row_departures root rows n (row_of rows n)
along_more root rows [] n = append-nil (row_departures root rows n (row_of rows n))
along_more root rows (x ∷ xs) n =
    ap (λ l. row_departures root rows x (row_of rows x) ++ l) (along_more root rows xs n)
    ∙ sym (append_assoc (row_departures root rows x (row_of rows x)) (departures_along root rows xs) (row_departures root rows n (row_of rows n)))

-- ---- of each key, the departures of a node are those of its story

module _ (n : ℕ) (e : Step) (o : Outcome) (k : List ℕ) where
  key_departure : (l : List ℕ) (b : Bool) (c : Option Cause) (a : Bool) → same_key k l ≡ a → key_departures k (departure n l b c) ≡ cond a (departure n l b c) []
  key_departure l b None true g = refl
  key_departure l b None false g = refl
  key_departure l true (Some c) true g = refl
  key_departure l true (Some c) false g = refl
  key_departure l false (Some c) a g = ap (λ b. cond b (record { node = n; key = l; cause = c } ∷ []) []) g

  -- the removals of the key tell them
  key_departures_in : (rs : List Removal) → key_departures k (departures_in n e o rs) ≡ departures_in n e o (key_removals k rs)
  key_departures_in [] = refl
  key_departures_in (r ∷ rs) =
      filter-append (λ (d : PlainDeparture). same_key k d.key) here (departures_in n e o rs)
      ∙ ap (λ l. l ++ key_departures k (departures_in n e o rs)) (key_departure r.key (is_key r.key (stored_key e o)) r.note (same_key k r.key) refl)
      ∙ ap (λ l. cond (same_key k r.key) here [] ++ l) (key_departures_in rs)
      ∙ go (same_key k r.key)
    where
      here : List PlainDeparture
      here = departure n r.key (is_key r.key (stored_key e o)) r.note

      go : (b : Bool) → cond b here [] ++ departures_in n e o (key_removals k rs) ≡ departures_in n e o (cond b (r ∷ key_removals k rs) (key_removals k rs))
      go true = refl
      go false = refl

  -- of a key that the step stores there are none
  none_stored : (l : List ℕ) (c : Option Cause) (b : Bool) → b ≡ true → departure n l b c ≡ []
  none_stored l None b e = refl
  none_stored l (Some c) b e = ap (λ b. cond b [] (record { node = n; key = l; cause = c } ∷ [])) e

  stored_none_in : (rs : List Removal) → is_key k (stored_key e o) ≡ true → key_departures k (departures_in n e o rs) ≡ []
  stored_none_in [] h = refl
  stored_none_in (r ∷ rs) h =
      filter-append (λ (d : PlainDeparture). same_key k d.key) here (departures_in n e o rs)
      ∙ ap (λ l. l ++ key_departures k (departures_in n e o rs)) (key_departure r.key (is_key r.key (stored_key e o)) r.note (same_key k r.key) refl ∙ go (same_key k r.key) refl)
      ∙ stored_none_in rs h
    where
      here : List PlainDeparture
      here = departure n r.key (is_key r.key (stored_key e o)) r.note

      go : (b : Bool) → same_key k r.key ≡ b → cond b here [] ≡ []
      go true g = none_stored r.key r.note (is_key r.key (stored_key e o)) (ap (λ l. is_key l (stored_key e o)) (sym (same_key-exact k r.key g)) ∙ h)
      go false g = refl

module _ (n : ℕ) (k : List ℕ) where
  -- what an event tells
  abbrev tells : Option EventKind → List PlainDeparture
  tells a = story_departures k (told n a)

  stored_none : (b : Bool) (o : Option ClassQueue) → tells (stored_event b o) ≡ []
  stored_none true None = refl
  stored_none false None = refl
  stored_none true (Some p) = refl
  stored_none false (Some p) = refl

  moved_none : (b : Bool) (p q : ClassQueue) → tells (cond b None (Some (kind.Moved p.queue q.queue))) ≡ []
  moved_none true p q = refl
  moved_none false p q = refl

  queues_none : (p q : Option ClassQueue) → tells (moved_event p q) ≡ []
  queues_none None q = refl
  queues_none (Some p) None = refl
  queues_none (Some p) (Some q) = moved_none (queue_number p.queue == queue_number q.queue) p q

  -- of a key that is held as it was
  stays_none : (p q : Option KeyPlace) (cause : Option Cause) → is_some q ≡ is_some p → tells (other_event p q cause) ≡ []
  stays_none None q cause e = refl
  stays_none (Some p) None cause e = absurd (false≢true e)
  stays_none (Some p) (Some q) cause e = queues_none p.lru q.lru

  -- of a key that left
  left_one : (p q : Option KeyPlace) (cause : Option Cause) (c : Cause) → is_some p ≡ true → is_some q ≡ false → cause ≡ Some c → tells (other_event p q cause) ≡ record { node = n; key = k; cause = c } ∷ []
  left_one None q cause c w g e = absurd (false≢true w)
  left_one (Some p) (Some q) cause c w g e = absurd (false≢true (sym g))
  left_one (Some p) None cause c w g e = ap (λ a. tells (other_event (Some p) None a)) e

place_some : (s : State) (o : Option ChunkRef) → is_some (key_place_at s o) ≡ is_some o
place_some s None = refl
place_some s (Some x) = refl

module _ (n : ℕ) (s : State) (e : Step) (k : List ℕ) (sound : Sound s) where
  was_held : is_some (key_place_of s k) ≡ held s k
  was_held = place_some s (find s k)

  is_held : is_some (key_place_of (step s e).0 k) ≡ held (step s e).0 k
  is_held = place_some (step s e).0 (find (step s e).0 k)

  unstored_told : stores s e k ≡ false → Leaves k s (step s e).0 (step_removals s e) (cause_of s e k) → key_departures k (departures_in n e (step s e).1 (step_removals s e)) ≡ tells n k (other_event (key_place_of s k) (key_place_of (step s e).0 k) (cause_of s e k))
  unstored_told f (stays_so h m) =
      key_departures_in n e (step s e).1 k (step_removals s e) ∙ ap (departures_in n e (step s e).1) m
      ∙ sym (stays_none n k (key_place_of s k) (key_place_of (step s e).0 k) (cause_of s e k) (is_held ∙ h ∙ sym was_held))
  unstored_told f (leaves c was gone told is) =
      key_departures_in n e (step s e).1 k (step_removals s e) ∙ ap (departures_in n e (step s e).1) told
      ∙ ap (λ b. departure n k b (Some c) ++ []) f
      ∙ sym (left_one n k (key_place_of s k) (key_place_of (step s e).0 k) (cause_of s e k) c (was_held ∙ was) (is_held ∙ gone) is)

  node_told : key_departures k (departures_at n s e) ≡ story_departures k (told n (event s e k))
  unfolding outcome_of
  node_told = go (stores s e k) refl where
    go : (b : Bool) → stores s e k ≡ b → key_departures k (departures_in n e (step s e).1 (step_removals s e)) ≡ tells n k (event_by b (key_place_of s k) (key_place_of (step s e).0 k) (cause_of s e k))
    go true f = stored_none_in n e (step s e).1 k (step_removals s e) f ∙ sym (stored_none n k (is_some (key_place_of s k)) (class_queue_of (key_place_of (step s e).0 k)))
    go false f = unstored_told f (step_leaves s sound e k f)

-- of the key, what stands below a node
pub record ToldBelow (v : SessionState) (k : List ℕ) (node : ℕ) (ds : List PlainDeparture) : Type 0 where
  pub below : List Event
  pub splits : story v.root v.rows v.current k ≡ story v.root v.rows node k ++ below
  pub known : key_departures k (reverse ds) ≡ story_departures k below
  pub rise : Rise node (story_departures k below)

told_starts : (v : SessionState) (k : List ℕ) (ds : List PlainDeparture) → ds ≡ [] → ToldBelow v k v.current ds
told_starts v k ds e = record { below = []; splits = sym (append-nil (story v.root v.rows v.current k)); known = ap (λ l. key_departures k (reverse l)) e; rise = tt }

rise_above : (m j : ℕ) (ds : List PlainDeparture) → j ≤ m → Rise m ds → Rise j ds
rise_above m j [] le h = tt
rise_above m j (d ∷ ds) le h = let up = h.0 in (omega (arith, le, up), h.1)

-- behind others
rise_behind : (m : ℕ) (xs ys : List PlainDeparture) → Rise m (xs ++ ys) → Rise 0 ys
rise_behind m [] ys h = rise_above m 0 ys (omega arith) h
rise_behind m (x ∷ xs) ys h = rise_behind x.node xs ys h.1

-- an event of a node more
rise_more : (k : List ℕ) (n parent : ℕ) (o : Option EventKind) (ys : List Event) → parent < n → Rise n (story_departures k ys) → Rise parent (story_departures k (told n o ++ ys))
rise_more k n parent None ys lt h = rise_above n parent (story_departures k ys) (omega (arith, lt)) h
rise_more k n parent (Some (kind.Left c)) ys lt h = (lt, h)
rise_more k n parent (Some (kind.Stored q)) ys lt h = rise_above n parent (story_departures k ys) (omega (arith, lt)) h
rise_more k n parent (Some (kind.Replaced q)) ys lt h = rise_above n parent (story_departures k ys) (omega (arith, lt)) h
rise_more k n parent (Some (kind.Moved p q)) ys lt h = rise_above n parent (story_departures k ys) (omega (arith, lt)) h

-- one node more, whose departures are these, the last first
told_more : (k : List ℕ) (xs ys : List Event) (ds more here : List PlainDeparture) → more ≡ ds ++ reverse here → key_departures k here ≡ story_departures k xs → key_departures k (reverse ds) ≡ story_departures k ys → key_departures k (reverse more) ≡ story_departures k (xs ++ ys)
told_more k xs ys ds more here me a b =
    ap (λ l. key_departures k (reverse l)) me
    ∙ ap (key_departures k) (reverse-append ds (reverse here) ∙ ap (λ l. l ++ reverse ds) (reverse-reverse here))
    ∙ filter-append (λ (d : PlainDeparture). same_key k d.key) here (reverse ds)
    ∙ ap (λ l. l ++ key_departures k (reverse ds)) a
    ∙ ap (λ l. story_departures k xs ++ l) b
    ∙ sym (filter_map-append (λ (e : Event). told_by k e.node e.kind) xs ys)

-- at the d-th node of the way: the departures below it are there, the last first
pub record Leaving (v : SessionState) (d : ℕ) (ds : List PlainDeparture) : Type 0 where
  pub climb : Climbs v d
  pub so_far : reverse (departures v.root v.rows v.current) ≡ ds ++ reverse (departures v.root v.rows climb.node)
  pub known : (k : List ℕ) → ToldBelow v k climb.node ds

pub leave_starts : (v : SessionState) (ds : List PlainDeparture) → ds ≡ [] → Leaving v (length (lineage v.rows v.current)) ds
leave_starts v ds e = record {
  climb = climb_starts v;
  so_far = ap (λ l. l ++ reverse (departures v.root v.rows v.current)) (sym e);
  known = λ k. told_starts v k ds e;
}

module _ (v : SessionState) (d n : ℕ) (e : Step) (o : Outcome) (r : PlainRecord) where
  -- what the record of a node tells is what left there
  told_here : (h : Trailed v d n e o r) → departures_at n (at v.root v.rows h.row.parent) h.row.step ≡ departures_in n e o (removals r.moves r.notes (at v.root v.rows n))
  told_here h =
      ap (departures_at n (at v.root v.rows h.row.parent)) (sym h.played)
      ∙ ap (λ a. departures_in n e a (step_removals (at v.root v.rows h.row.parent) e)) (sym h.answered)
      ∙ ap (departures_in n e o) (sym h.told.told)

  record_told : (k : List ℕ) (h : Trailed v d n e o r) → key_departures k (departures_in n e o (removals r.moves r.notes (at v.root v.rows n))) ≡ story_departures k (told n (event (at v.root v.rows h.row.parent) e k))
  record_told k h =
      ap (λ l. key_departures k (departures_in n e o l)) h.told.told
      ∙ ap (λ a. key_departures k (departures_in n e a (step_removals (at v.root v.rows h.row.parent) e))) h.answered
      ∙ node_told n (at v.root v.rows h.row.parent) e k h.before

  node_more : (w : Climbs v d) (pos : 0 < d) (h : Trailed v d n e o r) → departures v.root v.rows w.node ≡ departures v.root v.rows h.row.parent ++ departures_in n e o (removals r.moves r.notes (at v.root v.rows n))
  node_more w pos h =
      let here = row_is v d n e o r w pos h in
      ap (departures_along v.root v.rows) (lineage_above v.rows h.falls w.node h.row here)
      ∙ along_more v.root v.rows (lineage v.rows h.row.parent) w.node
      ∙ ap (λ q. departures v.root v.rows h.row.parent ++ row_departures v.root v.rows w.node q) here
      ∙ ap (λ m. departures v.root v.rows h.row.parent ++ departures_at m (at v.root v.rows h.row.parent) h.row.step) (node_is v d n e o r w pos h)
      ∙ ap (λ l. departures v.root v.rows h.row.parent ++ l) (told_here h)

  pub leave_more : (ds more : List PlainDeparture) → Leaving v d ds → 0 < d → Trailed v d n e o r → more ≡ ds ++ reverse (departures_in n e o (removals r.moves r.notes (at v.root v.rows n))) → Leaving v (d - 1) more
  leave_more ds more w pos h me =
      let above = departures v.root v.rows h.row.parent in
      let here = departures_in n e o (removals r.moves r.notes (at v.root v.rows n)) in
      record {
        climb = climbs v d n e o r w.climb pos h;
        so_far = w.so_far
            ∙ ap (λ l. ds ++ reverse l) (node_more w.climb pos h)
            ∙ ap (λ l. ds ++ l) (reverse-append above here)
            ∙ sym (append_assoc ds (reverse here) (reverse above))
            ∙ ap (λ l. l ++ reverse (departures v.root v.rows h.row.parent)) (sym me);
        known = λ k.
            let b = w.known k in
            record {
              below = told n (event (at v.root v.rows h.row.parent) e k) ++ b.below;
              splits = b.splits
                  ∙ ap (λ l. l ++ b.below) (story_more v d n e o r w.climb pos h k)
                  ∙ append_assoc (story v.root v.rows h.row.parent k) (told n (event (at v.root v.rows h.row.parent) e k)) b.below;
              known = told_more k (told n (event (at v.root v.rows h.row.parent) e k)) b.below ds more here me (record_told k h) b.known;
              rise = rise_more k n h.row.parent (event (at v.root v.rows h.row.parent) e k) b.below (h.falls n h.row h.known)
                  (subst (λ m. Rise m (story_departures k b.below)) (node_is v d n e o r w.climb pos h) b.rise);
            };
      }

no_nodes : (l : List ℕ) → length l ≡ 0 → l ≡ []
no_nodes [] e = refl
no_nodes (x ∷ xs) e = absurd (omega (arith, e))

-- at the root, or where there are as many as are wanted
pub leave_ends : (v : SessionState) (limit : Option ℕ) (d : ℕ) (ds : List PlainDeparture) → Leaving v d ds → (is_enough limit (length ds) ≡ true) ⊎ (d ≡ 0) → reverse (at_most limit ds) ≡ last_of limit (departures v.root v.rows v.current)
leave_ends v limit d ds w (inr z) =
    ap (λ l. reverse (at_most limit l)) (sym (append-nil ds)
    ∙ ap (λ l. ds ++ reverse (departures_along v.root v.rows l)) (sym (no_nodes (lineage v.rows w.climb.node) (w.climb.deep ∙ z)))
    ∙ sym w.so_far)
leave_ends v None d ds w (inl e) = absurd (false≢true e)
leave_ends v (Some m) d ds w (inl e) =
    ap reverse (sym (take-append-le m ds (reverse (departures v.root v.rows w.climb.node)) (leb-true m (length ds) e))
    ∙ ap (take m) (sym w.so_far))

-- why the way up stops
pub leave_stops : (v : SessionState) (limit : Option ℕ) (count d : ℕ) (ds : List PlainDeparture) → Leaving v d ds → count ≡ length ds → (is_enough limit count ≡ true) ⊎ ((d ≡ 0) ⊎ (length (lineage v.rows v.current) < d)) → (is_enough limit (length ds) ≡ true) ⊎ (d ≡ 0)
leave_stops v limit count d ds w e (inl t) = inl (ap (is_enough limit) (sym e) ∙ t)
leave_stops v limit count d ds w e (inr o) = inr (at_end v d w.climb o)

-- the last of a key's departures, and those before them
last_told : (m : ℕ) (k : List ℕ) (ds : List PlainDeparture) → key_departures k (reverse ds) ≡ key_departures k (reverse (drop m ds)) ++ key_departures k (reverse (take m ds))
last_told m k ds =
    ap (λ l. key_departures k (reverse l)) (sym (take-append-drop m ds))
    ∙ ap (key_departures k) (reverse-append (take m ds) (drop m ds))
    ∙ filter-append (λ (d : PlainDeparture). same_key k d.key) (reverse (drop m ds)) (reverse (take m ds))

-- of each key, what its story tells
pub leave_told : (v : SessionState) (limit : Option ℕ) (d : ℕ) (ds : List PlainDeparture) → Leaving v d ds → (is_enough limit (length ds) ≡ true) ⊎ (d ≡ 0) → AreTold limit (story v.root v.rows v.current) (reverse (at_most limit ds))
leave_told v (Some m) d ds w o k =
    let b = w.known k in
    let above = story v.root v.rows w.climb.node k in
    let older = key_departures k (reverse (drop m ds)) in
    let last = last_told m k ds in
    record {
      older = story_departures k above ++ older;
      exact = ap (story_departures k) b.splits
          ∙ filter_map-append (λ (e : Event). told_by k e.node e.kind) above b.below
          ∙ ap (λ l. story_departures k (story v.root v.rows w.climb.node k) ++ l) (sym b.known ∙ last)
          ∙ sym (append_assoc (story_departures k above) older (key_departures k (reverse (take m ds))));
      whole = λ e. absurd (false≢true (sym (ap is_some e)));
      once = rise_behind w.climb.node older (key_departures k (reverse (take m ds))) (subst (Rise w.climb.node) (sym b.known ∙ last) b.rise);
    }
leave_told v None d ds w (inl f) k = absurd (false≢true f)
leave_told v None d ds w (inr z) k =
    let b = w.known k in
    let all : story v.root v.rows v.current k ≡ b.below =
    b.splits ∙ ap (λ l. events_along v.root v.rows k l ++ b.below) (no_nodes (lineage v.rows w.climb.node) (w.climb.deep ∙ z)) in
    record {
      older = [];
      exact = ap (story_departures k) all ∙ sym b.known;
      whole = λ e. refl;
      once = rise_behind w.climb.node [] (key_departures k (reverse ds)) (subst (Rise w.climb.node) (sym b.known) b.rise);
    }
