-- Each part of a step takes out of the index the keys that its removals name, each for its cause, and no other.
use Rattle.std.specs.Prelude.{◌||◌, ℕ, zero, suc, ◌≡◌, Bool, true, false, cond, not, List, [], ◌∷◌, ◌++◌, Option, None, Some, is_some, refl}
use Rattle.std.proofs.Common.{sym, ◌∙◌, ap, subst}
use Rattle.std.proofs.lemmas.Bool.{false≢true}
use Rattle.std.proofs.lemmas.List.Elements.{filter-append}
use Rattle.rev_items.specs.Plain.{PlainItem}
use Rattle.rev_model.specs.State.{State, item_at, queue_of, free_of}
use Rattle.rev_model.specs.Move.{with_free}
use Rattle.rev_model.specs.Words.{is_dead, tail, over, idle, dropped, counted, inactive}
use Rattle.rev_model.specs.Pull.{evicts, takes_all, warmed, cooled, pull, pull_tail, pull_item, pull_live, page_of, fronted, carved, or_carved, given, squeezed, squeezed_by, taken_or, room_by, room}
use Rattle.rev_model.specs.Track.{same_key, Removal, removal}
use Rattle.rev_model.proofs.Laws.{same_key-exact}
use Rattle.rev_model.proofs.Track.{key_removals}
use Rattle.rev_model.specs.Causes.{live_removals, item_removals, tail_removals, pull_removals, squeeze_removals, squeeze_removals_by, none_or, room_removals_by, room_removals}
use Rattle.rev_model.specs.Events.{ByRoom, cause_by}
use Rattle.rev_model.proofs.Fates.{Indexed, fate, Stays, stays, Drops, Refreshes, stays_fate, stays_indexed, drops_own, drops_other, drops_was, drops_indexed, Carries, carries_fate, carries_indexed, refreshes_fate, refreshes_indexed}
use Rattle.rev_model.specs.declared.ChunkRef.{ChunkRef}
use Rattle.rev_model.specs.declared.Cause.{Cause}
use Rattle.rev_model.specs.declared.Cause.TheVariants.{Evicted, ReclaimedByPull}
use Rattle.rev_model.specs.declared.Counter.{Counter}
use Rattle.rev_model.specs.declared.Counter.TheVariants as counter
use Rattle.rev_model.specs.declared.Form.{Form}
use Rattle.rev_model.specs.declared.Form.TheVariants.{Fresh, Pool, Withdrawn}
use Rattle.rev_model.specs.declared.Outcome.{Outcome}
use Rattle.rev_model.specs.declared.Outcome.TheVariants as outcome
use Rattle.rev_model.specs.declared.PullMode.{PullMode}
use Rattle.rev_model.specs.declared.PullMode.TheVariants.{Plain, Evicting, ShareZero}
use Rattle.rev_model.specs.declared.Queue.{Queue}
use Rattle.rev_model.specs.declared.Queue.TheVariants.{Hot, Warm, Cold, Temp}

-- the removal that tells that the key left for this cause
abbrev pub removal_of : List ℕ → Cause → List Removal
removal_of k c = record { key = k; note = Some c } ∷ []

-- what a part does to the key: it leaves it as it was, and tells nothing of it, or takes it out and tells once why
pub data Does (f : Bool → Cause) (k : List ℕ) (s t : State) (rs : List Removal) : Type 0 where
  keeps : key_removals k rs ≡ [] → fate t k ≡ fate s k → Does f k s t rs
  takes : (a : Bool) → fate s k ≡ Some a → fate t k ≡ None → key_removals k rs ≡ removal_of k (f a) → Does f k s t rs

pub record Goes (f : Bool → Cause) (k : List ℕ) (s t : State) (rs : List Removal) : Type 0 where
  pub does : Does f k s t rs
  pub indexed : Indexed t

-- ---- one change

pub goes_stays : (f : Bool → Cause) (k : List ℕ) (s t : State) → Indexed s → Stays s t → Goes f k s t []
goes_stays f k s t d h = record { does = keeps refl (stays_fate s t k h); indexed = stays_indexed s t h d }

pub goes_refreshes : (f : Bool → Cause) (k : List ℕ) (s t : State) (x : ChunkRef) (i j : PlainItem) → Indexed s → Refreshes s t x i j → Goes f k s t []
goes_refreshes f k s t x i j d h = record { does = keeps refl (refreshes_fate s t x i j k h); indexed = refreshes_indexed s t x i j d h }

pub goes_drops : (f : Bool → Cause) (k : List ℕ) (s t : State) (x : ChunkRef) (i : PlainItem) (c : Cause) → Indexed s → Drops s t x i → c ≡ f (not (is_dead s.globals i)) → Goes f k s t (removal (Some i) (Some c))
goes_drops f k s t x i c d h e = record { does = go (same_key k i.key) refl; indexed = drops_indexed s t x i d h } where
  go : (b : Bool) → same_key k i.key ≡ b → Does f k s t (removal (Some i) (Some c))
  go true g =
      takes (not (is_dead s.globals i)) (drops_was s t x i k d h g) (drops_own s t x i k h g)
      (ap (λ b. cond b (removal_of i.key c) []) g ∙ ap (λ l. removal_of l c) (sym (same_key-exact k i.key g)) ∙ ap (removal_of k) e)
  go false g = keeps (ap (λ b. cond b (removal_of i.key c) []) g) (drops_other s t x i k d h g)

pub goes_carries : (f : Bool → Cause) (k : List ℕ) (s t : State) (x y : ChunkRef) (i : PlainItem) → Indexed s → Carries s t x y i → Goes f k s t []
goes_carries f k s t x y i d h = record { does = keeps refl (carries_fate s t x y i k d h); indexed = carries_indexed s t x y i d h }

-- ---- one part after another

pub key_removals-append : (k : List ℕ) (xs ys : List Removal) → key_removals k (xs ++ ys) ≡ key_removals k xs ++ key_removals k ys
key_removals-append k xs ys = filter-append (λ (r : Removal). same_key k r.key) xs ys

does_then : (f : Bool → Cause) (k : List ℕ) (s t u : State) (xs ys : List Removal) → Does f k s t xs → Does f k t u ys → Does f k s u (xs ++ ys)
does_then f k s t u xs ys (keeps n e) (keeps m g) = keeps (key_removals-append k xs ys ∙ ap (λ l. l ++ key_removals k ys) n ∙ m) (g ∙ e)
does_then f k s t u xs ys (keeps n e) (takes a w g r) = takes a (sym e ∙ w) g (key_removals-append k xs ys ∙ ap (λ l. l ++ key_removals k ys) n ∙ r)
does_then f k s t u xs ys (takes a w e r) (keeps m g) = takes a w (g ∙ e) (key_removals-append k xs ys ∙ ap (λ l. l ++ key_removals k ys) r ∙ ap (λ l. removal_of k (f a) ++ l) m)
does_then f k s t u xs ys (takes a w e r) (takes b v g p) = absurd (false≢true (ap is_some (sym e ∙ v)))

pub goes_then : (f : Bool → Cause) (k : List ℕ) (s t u : State) (xs ys : List Removal) → Goes f k s t xs → Goes f k t u ys → Goes f k s u (xs ++ ys)
goes_then f k s t u xs ys a b = record { does = does_then f k s t u xs ys a.does b.does; indexed = b.indexed }

-- either of two
pub goes_cond : (f : Bool → Cause) (k : List ℕ) (s : State) (rs qs : List Removal) (b : Bool) (p q : State × Outcome) → Goes f k s p.0 rs → Goes f k s q.0 qs → Goes f k s (cond b p q).0 (cond b rs qs)
goes_cond f k s rs qs true p q h g = h
goes_cond f k s rs qs false p q h g = g

-- the same after either of two
goes_either : (f : Bool → Cause) (k : List ℕ) (s : State) (rs : List Removal) (b : Bool) (p q : State × Outcome) → Goes f k s p.0 rs → Goes f k s q.0 rs → Goes f k s (cond b p q).0 rs
goes_either f k s rs true p q h g = h
goes_either f k s rs false p q h g = g

-- ---- pull

-- the causes of a pull's removals
pub record Pulls (f : Bool → Cause) (m : PullMode) : Type 0 where
  pub dead : ReclaimedByPull ≡ f false
  pub live : evicts m ≡ true → Evicted ≡ f true

module _ (f : Bool → Cause) (k : List ℕ) (s : State) (d : Indexed s) where
  warmed_goes : (c : ℕ) (q : Queue) (n : Counter) (x : ChunkRef) (i : PlainItem) → item_at s x ≡ Some i → Goes f k s (warmed c q n x i s) []
  warmed_goes c q n x i e = goes_refreshes f k s (warmed c q n x i s) x i (inactive i) d record { there = e; content = refl; index = refl; clock = refl; flush_limit = refl; key = refl; moment = refl; cas = refl }

  cooled_goes : (c : ℕ) (q : Queue) (x : ChunkRef) → Goes f k s (cooled c q x s) []
  cooled_goes c q x = goes_stays f k s (cooled c q x s) d record { content = refl; index = refl; clock = refl; flush_limit = refl }

  still_goes : Goes f k s s []
  still_goes = goes_stays f k s s d (stays s)

  dropped_goes : (c : ℕ) (q : Queue) (n : Counter) (x : ChunkRef) (i : PlainItem) (b : Cause) → item_at s x ≡ Some i → b ≡ f (not (is_dead s.globals i)) → Goes f k s (counted c n (dropped c q x i s)) (removal (Some i) (Some b))
  dropped_goes c q n x i b e g = goes_drops f k s (counted c n (dropped c q x i s)) x i b d record { there = e; content = refl; index = refl; clock = refl; flush_limit = refl } g

  live_goes : (c : ℕ) (q : Queue) (m : PullMode) (x : ChunkRef) (i : PlainItem) → Pulls f m → item_at s x ≡ Some i → is_dead s.globals i ≡ false → Goes f k s (pull_live s c q m x i).0 (live_removals q m i)
  live_goes c Hot m x i p e l =
      goes_either f k s [] i.bits.active (warmed c Hot counter.MovesToWarm x i s, outcome.Moved) (cond (takes_all m || (over s c Hot || idle s c Hot i)) (cooled c Hot x s, outcome.Moved) (s, outcome.Idle))
      (warmed_goes c Hot counter.MovesToWarm x i e)
      (goes_either f k s [] (takes_all m || (over s c Hot || idle s c Hot i)) (cooled c Hot x s, outcome.Moved) (s, outcome.Idle) (cooled_goes c Hot x) still_goes)
  live_goes c Warm m x i p e l =
      goes_either f k s [] i.bits.active (warmed c Warm counter.MovesWithinLru x i s, outcome.Moved) (cond (over s c Warm || idle s c Warm i) (cooled c Warm x s, outcome.Moved) (s, outcome.Idle))
      (warmed_goes c Warm counter.MovesWithinLru x i e)
      (goes_either f k s [] (over s c Warm || idle s c Warm i) (cooled c Warm x s, outcome.Moved) (s, outcome.Idle) (cooled_goes c Warm x) still_goes)
  live_goes c Cold Plain x i p e l =
      goes_either f k s [] i.bits.active (warmed c Cold counter.MovesToWarm x i s, outcome.Moved) (s, outcome.Idle) (warmed_goes c Cold counter.MovesToWarm x i e) still_goes
  live_goes c Cold Evicting x i p e l = dropped_goes c Cold counter.Evicted x i Evicted e (p.live refl ∙ ap (λ b. f (not b)) (sym l))
  live_goes c Cold ShareZero x i p e l =
      goes_either f k s [] i.bits.active (warmed c Cold counter.MovesToWarm x i s, outcome.Moved) (s, outcome.Idle) (warmed_goes c Cold counter.MovesToWarm x i e) still_goes
  live_goes c Temp m x i p e l = still_goes

  item_goes : (c : ℕ) (q : Queue) (m : PullMode) (x : ChunkRef) → Pulls f m → (o : Option PlainItem) → item_at s x ≡ o → Goes f k s (pull_item s c q m x o).0 (item_removals s q m o)
  item_goes c q m x p None e = still_goes
  item_goes c q m x p (Some i) e = go (is_dead s.globals i) refl where
    go : (b : Bool) → is_dead s.globals i ≡ b → Goes f k s (cond b (counted c counter.Reclaimed (dropped c q x i s), outcome.Reclaimed) (pull_live s c q m x i)).0 (cond b (removal (Some i) (Some ReclaimedByPull)) (live_removals q m i))
    go true g = dropped_goes c q counter.Reclaimed x i ReclaimedByPull e (p.dead ∙ ap (λ b. f (not b)) (sym g))
    go false g = live_goes c q m x i p e g

  tail_goes : (c : ℕ) (q : Queue) (m : PullMode) → Pulls f m → (o : Option ChunkRef) → Goes f k s (pull_tail s c q m o).0 (tail_removals s q m o)
  tail_goes c q m p None = still_goes
  tail_goes c q m p (Some x) = item_goes c q m x p (item_at s x) refl

  pub pull_goes : (c : ℕ) (q : Queue) (m : PullMode) → Pulls f m → Goes f k s (pull s c q m).0 (pull_removals s c q m)
  pull_goes c q m p = tail_goes c q m p (tail (queue_of s c q))

-- ---- room

abbrev room_cause : Bool → Cause
room_cause = cause_by ByRoom

room_pulls : (m : PullMode) → Pulls room_cause m
room_pulls m = record { dead = refl; live = λ e. refl }

squeeze_goes : (k : List ℕ) (s : State) (c : ℕ) → Indexed s → (o : Option ChunkRef) → Goes room_cause k s (squeezed_by s c o) (squeeze_removals_by s c o)
squeeze_goes k s c d None = pull_goes room_cause k s d c Hot ShareZero (room_pulls ShareZero)
squeeze_goes k s c d (Some x) = pull_goes room_cause k s d c Cold Evicting (room_pulls Evicting)

fronted_stays : (s u : State) (c : ℕ) (l : List ChunkRef) (r : State × ChunkRef) → Stays s u → fronted u c l ≡ Some r → Stays s r.0
fronted_stays s u c [] r h e = absurd (false≢true (ap is_some e))
fronted_stays s u c (x ∷ xs) r h e =
    let same : (with_free u c xs, x) ≡ r = cc in
    subst (λ (v : State × ChunkRef). Stays s v.0) same record { content = h.content; index = h.index; clock = h.clock; flush_limit = h.flush_limit }

carved_stays : (s : State) (c : ℕ) (o : Option (ℕ × Form)) → Stays s (carved s c o)
carved_stays s c None = stays s
carved_stays s c (Some (p, Fresh)) = record { content = refl; index = refl; clock = refl; flush_limit = refl }
carved_stays s c (Some (p, Pool)) = record { content = refl; index = refl; clock = refl; flush_limit = refl }
carved_stays s c (Some (p, Withdrawn)) = record { content = refl; index = refl; clock = refl; flush_limit = refl }

or_carved_stays : (s : State) (c : ℕ) (o : Option (State × ChunkRef)) (r : State × ChunkRef) → ((q : State × ChunkRef) → o ≡ Some q → Stays s q.0) → or_carved s c o ≡ Some r → Stays s r.0
or_carved_stays s c (Some q) r h e = h r e
or_carved_stays s c None r h e = fronted_stays s (carved s c (page_of s c)) c (free_of (carved s c (page_of s c)) c) r (carved_stays s c (page_of s c)) e

given_stays : (s : State) (c : ℕ) (r : State × ChunkRef) → given s c ≡ Some r → Stays s r.0
given_stays s c r e = or_carved_stays s c (fronted s c (free_of s c)) r (λ q g. fronted_stays s s c (free_of s c) q (stays s) g) e

round_goes : (k : List ℕ) (s : State) (c : ℕ) (rs : List Removal) (later : State × Option ChunkRef) → Indexed s → (o : Option (State × ChunkRef)) → ((r : State × ChunkRef) → o ≡ Some r → Stays s r.0) → Goes room_cause k s later.0 rs → Goes room_cause k s (taken_or o later).0 (none_or o rs)
round_goes k s c rs later d None h g = g
round_goes k s c rs later d (Some (t, x)) h g = goes_stays room_cause k s t d (h (t, x) refl)

rounds_go : (n : ℕ) (k : List ℕ) (s : State) (c : ℕ) → Indexed s → Goes room_cause k s (room_by n s c).0 (room_removals_by n s c)
rounds_go zero k s c d = goes_stays room_cause k s (counted c counter.OutOfMemory s) d record { content = refl; index = refl; clock = refl; flush_limit = refl }
rounds_go (suc n) k s c d =
    let first : Goes room_cause k s (squeezed s c) (squeeze_removals s c) = squeeze_goes k s c d (tail (queue_of s c Cold)) in
    round_goes k s c (squeeze_removals s c ++ room_removals_by n (squeezed s c) c) (room_by n (squeezed s c) c) d (given s c) (given_stays s c)
    (goes_then room_cause k s (squeezed s c) (room_by n (squeezed s c) c).0 (squeeze_removals s c) (room_removals_by n (squeezed s c) c) first (rounds_go n k (squeezed s c) c first.indexed))

pub room_goes : (k : List ℕ) (s : State) (c : ℕ) → Indexed s → Goes (cause_by ByRoom) k s (room s c).0 (room_removals s c)
room_goes k s c d = rounds_go 10 k s c d
