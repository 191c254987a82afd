-- Each move is undone by its reverse, and so is a record that is turned.
use Rattle.std.specs.Prelude.{ℕ, ◌≡◌, ◌+◌, ◌/◌, ◌<◌, ◌≤◌, Bool, true, false, cond, List, [], ◌∷◌, ◌++◌, Option, None, Some, is_some, length, slice_index, slice_index_or, slice_set, take, drop, zero, suc, refl, ◌==◌, map as map_list}
use Rattle.std.proofs.Common.{sym, ◌∙◌, ap, inl, inr, arith, eqb-true, eq-eqb, subst}
use Rattle.std.proofs.Math.ListN.{set}
use Rattle.std.proofs.lemmas.Bool.{cases_Bool, false≢true, true≢false, and_parts, and_from}
use Rattle.std.proofs.lemmas.List.{get_or-set_same, set-set, set-get_or, length-set}
use Rattle.std.proofs.lemmas.List.Sums.{sum_by-set, sum_by-cons}
use Rattle.std.specs.List.{sum_by}
use Rattle.std.specs.Ordering.{eq_by_cmp, is_eq}
use Rattle.std.specs.Cmp.{IsTotalOrder, eq_by_cmp_equiv}
use Rattle.std.specs.declared.cmp.Ordering.{Ordering}
use Rattle.std.specs.declared.cmp.Ordering.TheVariants.{Less, Equal, Greater}
use Rattle.std.specs.FinMap as map
use Rattle.rev_model.specs.Chunk.{same_chunk, same_entry, chunk_cmp}
use Rattle.rev_model.proofs.Chunks.{chunk_cmp_exact, chunk_cmp_total}
use Rattle.rev_model.specs.Lists.{has, distinct, count, without, before, insert}
use Rattle.rev_model.proofs.ListLaws.{Tells, put-take, without-insert, before-insert, has-insert, has-without, has_after-before}
use Rattle.rev_model.specs.State.{State, Contents, WellFormed, free_of, queue_of, queue_place, counter_of, counter_place, owner_of, item_at, per_page, stands}
use Rattle.std.specs.Option.{option_map}
use Rattle.std.specs.Cmp.Lexicographic.{nat_list_cmp_total}
use Rattle.rev_items.specs.Plain.{PlainItem}
use Rattle.rev_model.specs.declared.GlobalPart.{GlobalPart}
use Rattle.rev_model.specs.declared.GlobalPart.TheVariants.{LastCas, Timing, Mover, Settings}
use Rattle.rev_model.specs.Move.{Move, Takes, Puts, Fills, Touches, Binds, Unbinds, Lays, Lifts, Counts, Sets, BumpsIn, BumpsBack, BumpsOut, BumpsFront, Shifts, MarksIn, MarksOut, names, marked, unmarked, NoMarks, EndMarks, exchanged, carried, rebound, shifted, put_at, moved, reverse, back_of, retouched, Ready, Possible, MayEnter, HoldsNoItem, LiftReady, turned, Fits, falling, front, last_or, touched, laid, lifted, LeadsBack}
use Rattle.rev_model.specs.declared.Queue.{Queue}
use Rattle.rev_model.specs.declared.ClassSet.{ClassSet}
use Rattle.rev_model.specs.declared.Counter.{Counter}
use Rattle.rev_model.specs.declared.BumpEntry.{BumpEntry}
use Rattle.rev_model.specs.declared.Touched.{Touched}
use Rattle.rev_model.specs.declared.Form.{Form}
use Rattle.rev_model.specs.declared.Form.TheVariants.{Fresh, Pool, Withdrawn}
use Rattle.rev_model.specs.declared.Listed.TheVariants.{InFree, InQueue}
use Rattle.rev_model.specs.declared.Placed.TheVariants.{ToFree, ToQueue}
use Rattle.rev_model.specs.declared.ChunkRef.{ChunkRef}
use Rattle.rev_model.specs.declared.Entry.{Entry}
use Rattle.rev_model.specs.declared.Entry.TheVariants.{Chunk, Mark}

same_chunk-exact : (a b : ChunkRef) → same_chunk a b ≡ true → a ≡ b
same_chunk-exact a b h =
    let parts = and_parts (a.page == b.page) (a.slot == b.slot) h in
    let p : a.page ≡ b.page = eqb-true _ _ parts.0 in
    let q : a.slot ≡ b.slot = eqb-true _ _ parts.1 in
    λ i. record { page = p i; slot = q i }

pub same_chunk-self : (a : ChunkRef) → same_chunk a a ≡ true
same_chunk-self a = and_from (a.page == a.page) (a.slot == a.slot) (eq-eqb _ _ refl) (eq-eqb _ _ refl)

pub tells_chunk : Tells same_chunk
tells_chunk = record { exact = same_chunk-exact; self = same_chunk-self }

same_entry-exact : (a b : Entry) → same_entry a b ≡ true → a ≡ b
same_entry-exact (Chunk a) (Chunk b) h = ap Chunk (same_chunk-exact a b h)
same_entry-exact (Chunk a) Mark h = absurd (false≢true h)
same_entry-exact Mark (Chunk b) h = absurd (false≢true h)
same_entry-exact Mark Mark h = refl

same_entry-self : (a : Entry) → same_entry a a ≡ true
same_entry-self (Chunk a) = same_chunk-self a
same_entry-self Mark = refl

pub tells_entry : Tells same_entry
tells_entry = record { exact = same_entry-exact; self = same_entry-self }

-- counts
module _ {X : Type 0} (same : X → X → Bool) (tells : Tells same) where
  pub count-has : (x : X) (ys : List X) → has same x ys ≡ true → 1 ≤ count same x ys
  count-has x [] h = absurd (false≢true h)
  count-has x (y ∷ ys) h = elim (cases_Bool (same x y)) [
    | inl e ↦ rw e (omega arith)
    | inr e ↦ let more : 1 ≤ count same x ys = count-has x ys (rw e at h) in omega (arith, more)
  ]

  pub has-count : (x : X) (ys : List X) → count same x ys ≡ 0 → has same x ys ≡ false
  has-count x ys none = elim (cases_Bool (has same x ys)) [
    | inl e ↦ let some : 1 ≤ count same x ys = count-has x ys e in absurd (omega (arith, some, none))
    | inr e ↦ e
  ]

  pub count-without : (x : X) (ys : List X) → has same x ys ≡ true → count same x ys ≡ count same x (without same x ys) + 1
  count-without x [] h = absurd (false≢true h)
  count-without x (y ∷ ys) h = elim (cases_Bool (same x y)) [
    | inl e ↦ rw e (omega arith)
    | inr e ↦ let more : count same x ys ≡ count same x (without same x ys) + 1 = count-without x ys (rw e at h) in rw (e, e) (omega (arith, more))
  ]

  pub distinct_from_counts : (ys : List X) → ((x : X) → count same x ys ≤ 1) → distinct same ys ≡ true
  distinct_from_counts [] few = refl
  distinct_from_counts (y ∷ ys) few =
      let here : cond (same y y) 1 0 + count same y ys ≤ 1 = few y in
      let gone : has same y ys ≡ false = has-count y ys (omega (arith, rw (tells.self y) at here)) in
      rw gone (distinct_from_counts ys (λ x. omega (arith, few x)))

  -- a member of a table has no more than the table
  pub count_in_table : (x : X) (table : List (List X)) (n : ℕ) → count same x (slice_index_or table n []) ≤ sum_by (count same x) table
  count_in_table x [] n = omega arith
  count_in_table x (l ∷ ls) zero = rw (sum_by-cons (count same x) l ls) (omega arith)
  count_in_table x (l ∷ ls) (suc n) = rw (sum_by-cons (count same x) l ls) (omega (arith, count_in_table x ls n))

-- a table whose member changes and changes back
pub replaced : {X : Type 0} (table : List (List X)) (n : ℕ) (a : List X) (g : List X → List X) → n < length table → g a ≡ slice_index_or table n [] → slice_set (slice_set table n a) n (g (slice_index_or (slice_set table n a) n [])) ≡ table
replaced table n a g lt e = ap (λ l. slice_set (slice_set table n a) n (g l)) (get_or-set_same table n a [] lt) ∙ set-set table n a (g a) ∙ ap (slice_set table n) e ∙ set-get_or table n []

-- maps
equal_if : (o : Ordering) → is_eq o ≡ true → o ≡ Equal
equal_if Less e = absurd (false≢true e)
equal_if Equal e = refl
equal_if Greater e = absurd (false≢true e)

module _ {K : Type 0} {R : K → K → Ordering} (total : IsTotalOrder R) (exact : map.IsAntisymmetric R) where
  pub tied : (q k : K) → eq_by_cmp R q k ≡ true → q ≡ k
  tied q k e = exact q k (equal_if _ e)

  pub tied_self : (k : K) → eq_by_cmp R k k ≡ true
  tied_self k = (eq_by_cmp_equiv total).refl k

module _ {K X : Type 0} {R : K → K → Ordering} (total : IsTotalOrder R) (exact : map.IsAntisymmetric R) where
  pub get-put_at : (m : map.FinMap R X) (k : K) (o : Option X) (q : K) → map.get (put_at m k o) q ≡ cond (eq_by_cmp R q k) o (map.get m q)
  get-put_at m k None q = map.get-remove total m k q
  get-put_at m k (Some x) q = map.get-insert total m k x q

  pub get-put_at_same : (m : map.FinMap R X) (k : K) (o : Option X) → map.get (put_at m k o) k ≡ o
  get-put_at_same m k o = get-put_at m k o k ∙ ap (λ b. cond b o (map.get m k)) (tied_self total exact k)

  pub put_at_back : (m : map.FinMap R X) (k : K) (o : Option X) → put_at (put_at m k o) k (map.get m k) ≡ m
  put_at_back m k o = map.same_map total exact _ _ (λ q.
      get-put_at (put_at m k o) k (map.get m k) q ∙ elim (cases_Bool (eq_by_cmp R q k)) as (λ _. cond (eq_by_cmp R q k) (map.get m k) (map.get (put_at m k o) q) ≡ map.get m q) [
        | inl e ↦ rw e (ap (map.get m) (sym (tied total exact q k e)))
        | inr e ↦ rw e (get-put_at m k o q ∙ ap (λ b. cond b o (map.get m q)) e)
      ])

-- the lists of a well-formed state
free_distinct : (s : State) → WellFormed s → (c : ℕ) → distinct same_chunk (free_of s c) ≡ true
free_distinct s well c = distinct_from_counts same_chunk tells_chunk (free_of s c) (λ x. omega (arith, well.lists.once x, count_in_table same_chunk tells_chunk x s.free c))

pub few : (s : State) → WellFormed s → (place : ℕ) (e : Entry) → count same_entry e (slice_index_or s.queues place []) ≤ 1
few s well place (Chunk x) = omega (arith, well.lists.once x, count_in_table same_entry tells_entry (Chunk x) s.queues place)
few s well place Mark = well.lists.one_mark place

pub queue_distinct : (s : State) → WellFormed s → (c : ℕ) (q : Queue) → distinct same_entry (queue_of s c q) ≡ true
queue_distinct s well c q = distinct_from_counts same_entry tells_entry (queue_of s c q) (few s well (queue_place c q))

-- a chunk that stands nowhere is in no list
pub free_lacks : (s : State) (c : ℕ) (x : ChunkRef) → stands s x ≡ 0 → has same_chunk x (free_of s c) ≡ false
free_lacks s c x none = has-count same_chunk tells_chunk x (free_of s c) (omega (arith, none, count_in_table same_chunk tells_chunk x s.free c))

pub queue_lacks : (s : State) (c : ℕ) (q : Queue) (e : Entry) → MayEnter s c q e → has same_entry e (queue_of s c q) ≡ false
queue_lacks s c q (Chunk x) none = has-count same_entry tells_entry (Chunk x) (queue_of s c q) (omega (arith, none, count_in_table same_entry tells_entry (Chunk x) s.queues (queue_place c q)))
queue_lacks s c q Mark none = none

-- what a move's reverse does after it
pub record Undoes (m : Move) (s : State) : Type 0 where
  pub back : moved (reverse m s) (moved m s) ≡ s
  pub same : reverse (reverse m s) (moved m s) ≡ m
  pub ready : Ready (reverse m s) (moved m s)

undo-take_free : (s : State) → WellFormed s → (c : ℕ) (x : ChunkRef) → Ready (Takes (InFree c x)) s → Undoes (Takes (InFree c x)) s
undo-take_free s well c x r =
    let l = free_of s c in
    let apart : distinct same_chunk l ≡ true = free_distinct s well c in
    let b = before same_chunk x l in
    let got : slice_index_or (slice_set s.free c (without same_chunk x l)) c [] ≡ without same_chunk x l = get_or-set_same s.free c _ [] r.0 in
    let one : count same_chunk x l ≡ count same_chunk x (without same_chunk x l) + 1 = count-without same_chunk tells_chunk x l r.1 in
    let sum : sum_by (count same_chunk x) (slice_set s.free c (without same_chunk x l)) + count same_chunk x l ≡ sum_by (count same_chunk x) s.free + count same_chunk x (without same_chunk x l) = sum_by-set (count same_chunk x) s.free c (without same_chunk x l) [] r.0 in
    record {
      back = ap (λ f. record s { free = f }) (replaced s.free c (without same_chunk x l) (insert same_chunk x b) r.0 (put-take same_chunk tells_chunk x l r.1 apart));
      same = refl;
      ready = (rw length-set r.0, omega (arith, one, sum, well.lists.once x), rw got (has_after-before same_chunk tells_chunk x l r.1));
    }

undo-put_free : (s : State) → WellFormed s → (c : ℕ) (x : ChunkRef) (a : Option ChunkRef) → Ready (Puts (ToFree c x a)) s → Undoes (Puts (ToFree c x a)) s
undo-put_free s well c x a r =
    let l = free_of s c in
    let gone : has same_chunk x l ≡ false = free_lacks s c x r.1 in
    let got : slice_index_or (slice_set s.free c (insert same_chunk x a l)) c [] ≡ insert same_chunk x a l = get_or-set_same s.free c _ [] r.0 in
    record {
      back = ap (λ f. record s { free = f }) (replaced s.free c (insert same_chunk x a l) (without same_chunk x) r.0 (without-insert same_chunk tells_chunk x a l gone r.2));
      same = ap (λ b. Puts (ToFree c x b)) (ap (before same_chunk x) got ∙ before-insert same_chunk tells_chunk x a l gone r.2);
      ready = (rw length-set r.0, rw got (has-insert same_chunk tells_chunk x a l));
    }

pub entered : (s : State) → WellFormed s → (c : ℕ) (q : Queue) (e : Entry) → queue_place c q < length s.queues → has same_entry e (queue_of s c q) ≡ true → MayEnter (record s { queues = slice_set s.queues (queue_place c q) (without same_entry e (queue_of s c q)) }) c q e
entered s well c q (Chunk x) lt h =
    let l = queue_of s c q in
    let one : count same_entry (Chunk x) l ≡ count same_entry (Chunk x) (without same_entry (Chunk x) l) + 1 = count-without same_entry tells_entry (Chunk x) l h in
    let sum : sum_by (count same_entry (Chunk x)) (slice_set s.queues (queue_place c q) (without same_entry (Chunk x) l)) + count same_entry (Chunk x) l ≡ sum_by (count same_entry (Chunk x)) s.queues + count same_entry (Chunk x) (without same_entry (Chunk x) l) = sum_by-set (count same_entry (Chunk x)) s.queues (queue_place c q) (without same_entry (Chunk x) l) [] lt in
    omega (arith, one, sum, well.lists.once x)
entered s well c q Mark lt h =
    let l = queue_of s c q in
    let got : slice_index_or (slice_set s.queues (queue_place c q) (without same_entry Mark l)) (queue_place c q) [] ≡ without same_entry Mark l = get_or-set_same s.queues (queue_place c q) _ [] lt in
    rw got (has-without same_entry tells_entry Mark l (queue_distinct s well c q))

undo-take_queue : (s : State) → WellFormed s → (c : ℕ) (q : Queue) (e : Entry) → Ready (Takes (InQueue c q e)) s → Undoes (Takes (InQueue c q e)) s
undo-take_queue s well c q e r =
    let l = queue_of s c q in
    let n = queue_place c q in
    let got : slice_index_or (slice_set s.queues (queue_place c q) (without same_entry e l)) (queue_place c q) [] ≡ without same_entry e l = get_or-set_same s.queues (queue_place c q) _ [] r.0 in
    record {
      back = ap (λ f. record s { queues = f }) (replaced s.queues n (without same_entry e l) (insert same_entry e (before same_entry e l)) r.0 (put-take same_entry tells_entry e l r.1 (queue_distinct s well c q)));
      same = refl;
      ready = (rw length-set r.0, entered s well c q e r.0 r.1, rw got (has_after-before same_entry tells_entry e l r.1));
    }

undo-put_queue : (s : State) → WellFormed s → (c : ℕ) (q : Queue) (e : Entry) (a : Option Entry) → Ready (Puts (ToQueue c q e a)) s → Undoes (Puts (ToQueue c q e a)) s
undo-put_queue s well c q e a r =
    let l = queue_of s c q in
    let gone : has same_entry e l ≡ false = queue_lacks s c q e r.1 in
    let got : slice_index_or (slice_set s.queues (queue_place c q) (insert same_entry e a l)) (queue_place c q) [] ≡ insert same_entry e a l = get_or-set_same s.queues (queue_place c q) _ [] r.0 in
    record {
      back = ap (λ f. record s { queues = f }) (replaced s.queues (queue_place c q) (insert same_entry e a l) (without same_entry e) r.0 (without-insert same_entry tells_entry e a l gone r.2));
      same = ap (λ b. Puts (ToQueue c q e b)) (ap (before same_entry e) got ∙ before-insert same_entry tells_entry e a l gone r.2);
      ready = (rw length-set r.0, rw got (has-insert same_entry tells_entry e a l));
    }

undo-fill : (s : State) (x : ChunkRef) (o : Option PlainItem) → Ready (Fills x o) s → Undoes (Fills x o) s
undo-fill s x o r = record {
  back = ap (λ m. record s { content = m }) (put_at_back chunk_cmp_total chunk_cmp_exact s.content x o);
  same = ap (Fills x) (get-put_at_same chunk_cmp_total chunk_cmp_exact s.content x o);
  ready = r;
}

retouch : (t : Touched) (o : Option PlainItem) → option_map (touched (retouched t o)) (option_map (touched t) o) ≡ o
retouch t None = refl
retouch t (Some i) = refl

retouched-some : (u t : Touched) (o : Option PlainItem) → is_some o ≡ true → retouched u (option_map (touched t) o) ≡ t
retouched-some u t None h = absurd (false≢true h)
retouched-some u t (Some i) h = refl

is_some-map : (t : Touched) (o : Option PlainItem) → is_some o ≡ true → is_some (option_map (touched t) o) ≡ true
is_some-map t None h = h
is_some-map t (Some i) h = refl

undo-touch : (s : State) (x : ChunkRef) (t : Touched) → Ready (Touches x t) s → Undoes (Touches x t) s
undo-touch s x t r =
    let m = s.content in
    let o = item_at s x in
    let g : map.get (put_at s.content x (option_map (touched t) (item_at s x))) x ≡ option_map (touched t) (item_at s x) = get-put_at_same chunk_cmp_total chunk_cmp_exact m x _ in
    record {
      back = ap (λ k. record s { content = k }) (ap (λ p. put_at (put_at m x (option_map (touched t) o)) x p) (ap (option_map (touched (retouched t o))) g ∙ retouch t o) ∙ put_at_back chunk_cmp_total chunk_cmp_exact m x (option_map (touched t) o));
      same = ap (Touches x) (ap (retouched (retouched t o)) g ∙ retouched-some (retouched t o) t o r);
      ready = ap is_some g ∙ is_some-map t o r;
    }

undo-bind : (s : State) (x : ChunkRef) → Ready (Binds x) s → Undoes (Binds x) s
undo-bind s x (i, e, none) =
    let k = put_at_back nat_list_cmp_total (map.slice_cmp-IsAntisymmetric map.nat_cmp-IsAntisymmetric) s.index i.key (Some x) in
    record {
      back = rw (e, e) (ap (λ m. record s { index = m }) (ap (put_at (map.insert s.index i.key x) i.key) (sym none) ∙ k));
      same = refl;
      ready = (i, rw e e, rw e (get-put_at_same nat_list_cmp_total (map.slice_cmp-IsAntisymmetric map.nat_cmp-IsAntisymmetric) s.index i.key (Some x)));
    }

undo-unbind : (s : State) (x : ChunkRef) → Ready (Unbinds x) s → Undoes (Unbinds x) s
undo-unbind s x (i, e, there) =
    let k = put_at_back nat_list_cmp_total (map.slice_cmp-IsAntisymmetric map.nat_cmp-IsAntisymmetric) s.index i.key None in
    record {
      back = rw (e, e) (ap (λ m. record s { index = m }) (ap (put_at (map.remove s.index i.key) i.key) (sym there) ∙ k));
      same = refl;
      ready = (i, rw e e, rw e (get-put_at_same nat_list_cmp_total (map.slice_cmp-IsAntisymmetric map.nat_cmp-IsAntisymmetric) s.index i.key None));
    }

undo-count : (s : State) (c : ℕ) (k : Counter) (v : ℕ) → Ready (Counts c k v) s → Undoes (Counts c k v) s
undo-count s c k v r = record {
  back = ap (λ l. record s { counters = l }) (set-set s.counters (counter_place c k) v (counter_of s c k) ∙ set-get_or s.counters (counter_place c k) 0);
  same = ap (Counts c k) (get_or-set_same s.counters (counter_place c k) v 0 r);
  ready = rw length-set r;
}

-- the bump queue
pub front-push : (l : List BumpEntry) (b : BumpEntry) → front (l ++ b ∷ []) ≡ l
front-push [] b = refl
front-push (x ∷ []) b = refl
front-push (x ∷ y ∷ ys) b = ap (λ l. x ∷ l) (front-push (y ∷ ys) b)

last-push : (d : BumpEntry) (l : List BumpEntry) (b : BumpEntry) → last_or d (l ++ b ∷ []) ≡ b
last-push d [] b = refl
last-push d (x ∷ xs) b = last-push x xs b

pub back_of-push : (l : List BumpEntry) (b : BumpEntry) → back_of (l ++ b ∷ []) ≡ BumpsIn b
back_of-push [] b = refl
back_of-push (x ∷ xs) b = ap BumpsIn (last-push x xs b)

some-push : (l : List BumpEntry) (b : BumpEntry) → 0 < length (l ++ b ∷ [])
some-push [] b = omega arith
some-push (x ∷ xs) b = omega arith

front-last : (b : BumpEntry) (bs : List BumpEntry) → front (b ∷ bs) ++ last_or b bs ∷ [] ≡ b ∷ bs
front-last b [] = refl
front-last b (c ∷ cs) = ap (λ l. b ∷ l) (front-last c cs)

undo-bump_in : (s : State) (b : BumpEntry) → Undoes (BumpsIn b) s
undo-bump_in s b = record {
  back = ap (λ l. record s { bump = l }) (front-push s.bump b);
  same = back_of-push s.bump b;
  ready = some-push s.bump b;
}

undo-bump_back : (s : State) (l : List BumpEntry) → 0 < length l → Undoes BumpsBack (record s { bump = l })
undo-bump_back s [] r = absurd (omega (arith, r))
undo-bump_back s (b ∷ bs) r = record {
  back = ap (λ l. record s { bump = l }) (front-last b bs);
  same = refl;
  ready = tt;
}

undo-bump_out : (s : State) (l : List BumpEntry) → 0 < length l → Undoes BumpsOut (record s { bump = l })
undo-bump_out s [] r = absurd (omega (arith, r))
undo-bump_out s (b ∷ bs) r = record {
  back = refl;
  same = refl;
  ready = tt;
}

undo-bump_front : (s : State) (b : BumpEntry) → Undoes (BumpsFront b) s
undo-bump_front s b = record {
  back = refl;
  same = refl;
  ready = omega arith;
}

-- pages
drop-falling : (p n : ℕ) (l : List ChunkRef) → drop n (falling p n ++ l) ≡ l
drop-falling p zero l = refl
drop-falling p (suc n) l = drop-falling p n l

take-falling : (p n : ℕ) (l : List ChunkRef) → take n (falling p n ++ l) ≡ falling p n
take-falling p zero l = refl
take-falling p (suc n) l = ap (λ t. record { page = p; slot = n } ∷ t) (take-falling p n l)

take_and_drop : {X : Type 0} → (n : ℕ) (l : List X) → take n l ++ drop n l ≡ l
take_and_drop zero l = refl
take_and_drop (suc n) [] = refl
take_and_drop (suc n) (x ∷ xs) = ap (λ t. x ∷ t) (take_and_drop n xs)

own-push : (l : List ℕ) (c p : ℕ) → p ≡ length l → slice_index (l ++ c ∷ []) p ≡ c
own-push [] c zero e = refl
own-push [] c (suc p) e = absurd (omega (arith, e))
own-push (x ∷ xs) c zero e = absurd (omega (arith, e))
own-push (x ∷ xs) c (suc p) e = own-push xs c p (omega (arith, e))

front-push_owner : (l : List ℕ) (c : ℕ) → front (l ++ c ∷ []) ≡ l
front-push_owner [] c = refl
front-push_owner (x ∷ []) c = refl
front-push_owner (x ∷ y ∷ ys) c = ap (λ t. x ∷ t) (front-push_owner (y ∷ ys) c)

front-own : (l : List ℕ) (p : ℕ) → p + 1 ≡ length l → front l ++ slice_index l p ∷ [] ≡ l
front-own [] p e = absurd (omega (arith, e))
front-own (x ∷ []) zero e = refl
front-own (x ∷ []) (suc p) e = absurd (omega (arith, e))
front-own (x ∷ y ∷ ys) zero e = absurd (omega (arith, e))
front-own (x ∷ y ∷ ys) (suc p) e = ap (λ t. x ∷ t) (front-own (y ∷ ys) p (omega (arith, e)))

length-front : (l : List ℕ) (p : ℕ) → p + 1 ≡ length l → p ≡ length (front l)
length-front [] p e = absurd (omega (arith, e))
length-front (x ∷ []) p e = omega (arith, e)
length-front (x ∷ y ∷ ys) zero e = absurd (omega (arith, e))
length-front (x ∷ y ∷ ys) (suc p) e = let more : p ≡ length (front (y ∷ ys)) = length-front (y ∷ ys) p (omega (arith, e)) in omega (arith, more)

length-push : (l : List ℕ) (c : ℕ) → length (l ++ c ∷ []) ≡ length l + 1
length-push [] c = refl
length-push (x ∷ xs) c = let more : length (xs ++ c ∷ []) ≡ length xs + 1 = length-push xs c in omega (arith, more)

-- the free list after a lay and a lift, and the other way round
lay-lift : (free : List (List ChunkRef)) (p c n m : ℕ) → c < length free → n ≡ m → slice_set (slice_set free c (falling p n ++ slice_index_or free c [])) c (drop m (slice_index_or (slice_set free c (falling p n ++ slice_index_or free c [])) c [])) ≡ free
lay-lift free p c n m lt e = replaced free c (falling p n ++ slice_index_or free c []) (drop m) lt (ap (λ k. drop k (falling p n ++ slice_index_or free c [])) (sym e) ∙ drop-falling p n (slice_index_or free c []))

lift-lay : (free : List (List ChunkRef)) (p c n : ℕ) → c < length free → take n (slice_index_or free c []) ≡ falling p n → slice_set (slice_set free c (drop n (slice_index_or free c []))) c (falling p n ++ slice_index_or (slice_set free c (drop n (slice_index_or free c []))) c []) ≡ free
lift-lay free p c n lt h = replaced free c (drop n (slice_index_or free c [])) (λ l. falling p n ++ l) lt (ap (λ t. t ++ drop n (slice_index_or free c [])) (sym h) ∙ take_and_drop n (slice_index_or free c []))

lay-take : (free : List (List ChunkRef)) (p c n m : ℕ) → c < length free → n ≡ m → take m (slice_index_or (slice_set free c (falling p n ++ slice_index_or free c [])) c []) ≡ falling p m
lay-take free p c n m lt e = ap (take m) (get_or-set_same free c (falling p n ++ slice_index_or free c []) [] lt) ∙ ap (λ k. take m (falling p k ++ slice_index_or free c [])) e ∙ take-falling p m (slice_index_or free c [])

-- a lift after the page got its class
lifts_back : (s t : State) (p c : ℕ) (f : Form) → owner_of t p ≡ c → lifted p c (per_page t.fixed c) f t ≡ s → moved (Lifts p f) t ≡ s
lifts_back s t p c f e h = ap (λ k. lifted p k (per_page t.fixed k) f t) e ∙ h

lifts_same : (t : State) (p c n : ℕ) (f : Form) → owner_of t p ≡ c → n ≡ per_page t.fixed c → reverse (Lifts p f) t ≡ Lays p c n f
lifts_same t p c n f e h = ap (λ k. Lays p k (per_page t.fixed k) f) e ∙ ap (λ k. Lays p c k f) (sym h)

lifts_ready : (t : State) (p c : ℕ) (f : Form) → owner_of t p ≡ c → LiftReady p c (per_page t.fixed c) f t × (0 < c) × (c < length t.free) × HoldsNoItem t p → Ready (Lifts p f) t
lifts_ready t p c f e h = subst (λ k. LiftReady p k (per_page t.fixed k) f t × (0 < k) × (k < length t.free) × HoldsNoItem t p) (sym e) h

undo-lay : (s : State) (p c n : ℕ) (f : Form) → Ready (Lays p c n f) s → Undoes (Lays p c n f) s
undo-lay s p c n Fresh r =
    let t = laid p c n Fresh s in
    let e : owner_of (laid p c n Fresh s) p ≡ c = own-push s.owner c p r.0 in
    record {
      back = lifts_back s t p c Fresh e (λ i. record s { owner = front-push_owner s.owner c i; free = lay-lift s.free p c n (per_page s.fixed c) r.2 r.3 i });
      same = lifts_same t p c n Fresh e r.3;
      ready = lifts_ready t p c Fresh e ((omega (arith, r.0, length-push s.owner c), lay-take s.free p c n (per_page s.fixed c) r.2 r.3), r.1, rw length-set r.2, r.4);
    }
undo-lay s p c n Pool r =
    let t = laid p c n Pool s in
    let e : owner_of (laid p c n Pool s) p ≡ c = get_or-set_same s.owner p c 0 r.0.0 in
    record {
      back = lifts_back s t p c Pool e (λ i. record s { owner = (set-set s.owner p c 0 ∙ ap (slice_set s.owner p) (sym r.0.1) ∙ set-get_or s.owner p 0) i; free = lay-lift s.free p c n (per_page s.fixed c) r.2 r.3 i });
      same = lifts_same t p c n Pool e r.3;
      ready = lifts_ready t p c Pool e ((rw length-set r.0.0, lay-take s.free p c n (per_page s.fixed c) r.2 r.3), r.1, rw length-set r.2, r.4);
    }
undo-lay s p c n Withdrawn r =
    let t = laid p c n Withdrawn s in
    let e : owner_of (laid p c n Withdrawn s) p ≡ c = get_or-set_same s.owner p c 0 r.0.0 in
    record {
      back = lifts_back s t p c Withdrawn e (ap (λ o. record s { owner = o }) (set-set s.owner p c 0 ∙ ap (slice_set s.owner p) (sym r.0.1) ∙ set-get_or s.owner p 0));
      same = lifts_same t p c n Withdrawn e r.3;
      ready = lifts_ready t p c Withdrawn e (rw length-set r.0.0, r.1, r.2, r.4);
    }

undo-lift : (s : State) (p : ℕ) (f : Form) → Ready (Lifts p f) s → Undoes (Lifts p f) s
undo-lift s p Fresh r = record {
  back = λ i. record s { owner = front-own s.owner p r.0.0 i; free = lift-lay s.free p (owner_of s p) (per_page s.fixed (owner_of s p)) r.2 r.0.1 i };
  same = refl;
  ready = (length-front s.owner p r.0.0, r.1, rw length-set r.2, refl, r.3);
}
undo-lift s p Pool r = record {
  back = λ i. record s { owner = (set-set s.owner p 0 (owner_of s p) ∙ set-get_or s.owner p 0) i; free = lift-lay s.free p (owner_of s p) (per_page s.fixed (owner_of s p)) r.2 r.0.1 i };
  same = refl;
  ready = ((rw length-set r.0.0, get_or-set_same s.owner p 0 0 r.0.0), r.1, rw length-set r.2, refl, r.3);
}
undo-lift s p Withdrawn r = record {
  back = ap (λ o. record s { owner = o }) (set-set s.owner p 0 (owner_of s p) ∙ set-get_or s.owner p 0);
  same = refl;
  ready = ((rw length-set r.0, get_or-set_same s.owner p 0 0 r.0), r.1, r.2, refl, r.3);
}

-- a shift
pub exchanged-back : (x y : Entry) (es : List Entry) → has same_entry y es ≡ false → exchanged y x (exchanged x y es) ≡ es
exchanged-back x y [] gone = refl
exchanged-back x y (e ∷ es) gone = elim (cases_Bool (same_entry y e)) [
  | inl f ↦ absurd (true≢false (rw f at gone))
  | inr f ↦ elim (cases_Bool (same_entry x e)) [
    | inl g ↦ rw (g, tells_entry.self y, tells_entry.exact x e g) (ap (λ k. e ∷ k) (exchanged-back x y es (rw f at gone)))
    | inr g ↦ rw (g, f) (ap (λ k. e ∷ k) (exchanged-back x y es (rw f at gone)))
  ]
]

pub carried-back : (m : Contents) (x y : ChunkRef) → (x ≡ y → ⊥) → map.get m y ≡ None → carried (carried m x y) y x ≡ m
carried-back m x y ne none =
    let got : map.get (put_at (put_at m x None) y (map.get m x)) y ≡ map.get m x = get-put_at_same chunk_cmp_total chunk_cmp_exact (put_at m x None) y (map.get m x) in
    let empty : map.get (put_at m x None) y ≡ None = elim (cases_Bool (eq_by_cmp chunk_cmp y x)) [
      | inl e ↦ absurd (ne (sym (tied chunk_cmp_total chunk_cmp_exact y x e)))
      | inr e ↦ get-put_at chunk_cmp_total chunk_cmp_exact m x None y ∙ ap (λ b. cond b None (map.get m y)) e ∙ none
    ] in
    ap (put_at (put_at (put_at (put_at m x None) y (map.get m x)) y None) x) got
    ∙ ap (λ k. put_at k x (map.get m x)) (ap (put_at (put_at (put_at m x None) y (map.get m x)) y) (sym empty) ∙ put_at_back chunk_cmp_total chunk_cmp_exact (put_at m x None) y (map.get m x))
    ∙ put_at_back chunk_cmp_total chunk_cmp_exact m x None

pub count_none : {X : Type 0} (same : X → X → Bool) (x : X) (ys : List X) → has same x ys ≡ false → count same x ys ≡ 0
count_none same x [] h = refl
count_none same x (y ∷ ys) h = elim (cases_Bool (same x y)) [
  | inl e ↦ absurd (true≢false (rw e at h))
  | inr e ↦ let more : count same x ys ≡ 0 = count_none same x ys (rw e at h) in rw e (omega (arith, more))
]

pub sum_none : {X : Type 0} (same : X → X → Bool) (x : X) (ls : List (List X)) → ((p : ℕ) → has same x (slice_index_or ls p []) ≡ false) → sum_by (count same x) ls ≡ 0
sum_none same x [] h = refl
sum_none same x (l ∷ ls) h =
    let here : count same x l ≡ 0 = count_none same x l (h 0) in
    let more : sum_by (count same x) ls ≡ 0 = sum_none same x ls (λ p. h (suc p)) in
    sum_by-cons (count same x) l ls ∙ omega (arith, here, more)

pub lacks-exchanged : (a b : Entry) (es : List Entry) → same_entry a b ≡ false → has same_entry a (exchanged a b es) ≡ false
lacks-exchanged a b [] d = refl
lacks-exchanged a b (e ∷ es) d = elim (cases_Bool (same_entry a e)) [
  | inl g ↦ rw (g, d) (lacks-exchanged a b es d)
  | inr g ↦ rw (g, g) (lacks-exchanged a b es d)
]

pub has-exchanged : (a b : Entry) (es : List Entry) → has same_entry a es ≡ true → has same_entry b (exchanged a b es) ≡ true
has-exchanged a b [] h = absurd (false≢true h)
has-exchanged a b (e ∷ es) h = elim (cases_Bool (same_entry a e)) [
  | inl g ↦ rw (g, tells_entry.self b) refl
  | inr g ↦ rw g (elim (cases_Bool (same_entry b e)) [ inl f ↦ rw f refl | inr f ↦ rw f (has-exchanged a b es (rw g at h)) ])
]

pub at_map : (f : List Entry → List Entry) → f [] ≡ [] → (ls : List (List Entry)) (p : ℕ) → slice_index_or (map_list f ls) p [] ≡ f (slice_index_or ls p [])
at_map f e [] p = sym e
at_map f e (l ∷ ls) zero = refl
at_map f e (l ∷ ls) (suc p) = at_map f e ls p

table_back : (a b : Entry) (ls : List (List Entry)) → ((p : ℕ) → has same_entry b (slice_index_or ls p []) ≡ false) → map_list (exchanged b a) (map_list (exchanged a b) ls) ≡ ls
table_back a b [] h = refl
table_back a b (l ∷ ls) h = λ i. exchanged-back a b l (h 0) i ∷ table_back a b ls (λ p. h (suc p)) i

pub in_no_queue : (s : State) (x : ChunkRef) → stands s x ≡ 0 → (p : ℕ) → has same_entry (Chunk x) (slice_index_or s.queues p []) ≡ false
in_no_queue s x none p = has-count same_entry tells_entry (Chunk x) (slice_index_or s.queues p []) (omega (arith, none, count_in_table same_entry tells_entry (Chunk x) s.queues p))

carried_to : (m : Contents) (x y : ChunkRef) → map.get (carried m x y) y ≡ map.get m x
carried_to m x y = get-put_at_same chunk_cmp_total chunk_cmp_exact (put_at m x None) y (map.get m x)

carried_from : (m : Contents) (x y : ChunkRef) → (x ≡ y → ⊥) → map.get (carried m x y) x ≡ None
carried_from m x y ne = elim (cases_Bool (eq_by_cmp chunk_cmp x y)) [
  | inl e ↦ absurd (ne (tied chunk_cmp_total chunk_cmp_exact x y e))
  | inr e ↦ get-put_at chunk_cmp_total chunk_cmp_exact (put_at m x None) y (map.get m x) x ∙ ap (λ b. cond b (map.get m x) (map.get (put_at m x None) x)) e ∙ get-put_at_same chunk_cmp_total chunk_cmp_exact m x None
]

pub apart_by_item : (s : State) (a b : ChunkRef) (i : PlainItem) → item_at s a ≡ Some i → item_at s b ≡ None → a ≡ b → ⊥
apart_by_item s a b i e none p = true≢false (ap is_some (sym e ∙ ap (item_at s) p ∙ none))

pub differ : (a b : ChunkRef) → (a ≡ b → ⊥) → same_chunk a b ≡ false
differ a b ne = elim (cases_Bool (same_chunk a b)) [ inl e ↦ absurd (ne (same_chunk-exact a b e)) | inr e ↦ e ]

undo-shift : (s : State) → WellFormed s → (a b : ChunkRef) → Ready (Shifts a b) s → Undoes (Shifts a b) s
undo-shift s well a b (i, e, there, none, out, (c, q, stood)) =
    let ne : a ≡ b → ⊥ = apart_by_item s a b i e none in
    let t = shifted a b s in
    let gone : (p : ℕ) → has same_entry (Chunk b) (slice_index_or s.queues p []) ≡ false = in_no_queue s b out in
    let got : item_at (shifted a b s) b ≡ Some i = carried_to s.content a b ∙ e in
    let index : (shifted a b s).index ≡ map.insert s.index i.key b = ap (λ o. rebound b o s.index) e in
    let total = nat_list_cmp_total in
    let exact = map.slice_cmp-IsAntisymmetric map.nat_cmp-IsAntisymmetric in
    let back_index : rebound a (item_at (shifted a b s) b) (shifted a b s).index ≡ s.index =
    ap (λ o. rebound a o (shifted a b s).index) got ∙ ap (λ m. map.insert m i.key a) index
    ∙ ap (put_at (map.insert s.index i.key b) i.key) (sym there) ∙ put_at_back nat_list_cmp_total (map.slice_cmp-IsAntisymmetric map.nat_cmp-IsAntisymmetric) s.index i.key (Some b) in
    let away : (p : ℕ) → has same_entry (Chunk a) (slice_index_or (shifted a b s).queues p []) ≡ false =
    λ p. ap (has same_entry (Chunk a)) (at_map (exchanged (Chunk a) (Chunk b)) refl s.queues p) ∙ lacks-exchanged (Chunk a) (Chunk b) (slice_index_or s.queues p []) (differ a b ne) in
    let free : sum_by (count same_chunk a) s.free ≡ 0 = sum_none same_chunk a s.free (λ c. (well.filled.items a (ap is_some e)).1 c) in
    let queues : sum_by (count same_entry (Chunk a)) (shifted a b s).queues ≡ 0 = sum_none same_entry (Chunk a) (shifted a b s).queues away in
    record {
      back = λ j. record s { queues = table_back (Chunk a) (Chunk b) s.queues gone j; content = carried-back s.content a b ne none j; index = back_index j };
      same = refl;
      ready = (i, got, ap (λ m. map.get m i.key) index ∙ get-put_at_same nat_list_cmp_total (map.slice_cmp-IsAntisymmetric map.nat_cmp-IsAntisymmetric) s.index i.key (Some b), carried_from s.content a b ne, omega (arith, free, queues), (c, q, ap (has same_entry (Chunk b)) (at_map (exchanged (Chunk a) (Chunk b)) refl s.queues (queue_place c q)) ∙ has-exchanged (Chunk a) (Chunk b) (queue_of s c q) stood));
    }

-- marks
front_push : (l : List Entry) (e : Entry) → front (l ++ e ∷ []) ≡ l
front_push [] e = refl
front_push (x ∷ []) e = refl
front_push (x ∷ y ∷ ys) e = ap (λ l. x ∷ l) (front_push (y ∷ ys) e)

pub unmarked-marked : (named : ℕ → Bool) (p : ℕ) (ls : List (List Entry)) → unmarked named p (marked named p ls) ≡ ls
unmarked-marked named p [] = refl
unmarked-marked named p (l ∷ ls) = elim (cases_Bool (named (p / 4))) [
  | inl e ↦ rw e (λ i. front_push l Mark i ∷ unmarked-marked named (suc p) ls i)
  | inr e ↦ rw e (ap (λ k. l ∷ k) (unmarked-marked named (suc p) ls))
]

pub EndMarks-marked : (named : ℕ → Bool) (p : ℕ) (ls : List (List Entry)) → EndMarks named p (marked named p ls)
EndMarks-marked named p [] = tt
EndMarks-marked named p (l ∷ ls) = (λ e. rw e (ap (λ k. k ++ Mark ∷ []) (front_push l Mark)), EndMarks-marked named (suc p) ls)

pub marked-unmarked : (named : ℕ → Bool) (p : ℕ) (ls : List (List Entry)) → EndMarks named p ls → marked named p (unmarked named p ls) ≡ ls
marked-unmarked named p [] h = refl
marked-unmarked named p (l ∷ ls) h = elim (cases_Bool (named (p / 4))) [
  | inl e ↦ rw e (λ i. h.0 e i ∷ marked-unmarked named (suc p) ls h.1 i)
  | inr e ↦ rw e (ap (λ k. l ∷ k) (marked-unmarked named (suc p) ls h.1))
]

count_push : (l : List Entry) → count same_entry Mark (l ++ Mark ∷ []) ≡ count same_entry Mark l + 1
count_push [] = omega arith
count_push (x ∷ xs) = let more : count same_entry Mark (xs ++ Mark ∷ []) ≡ count same_entry Mark xs + 1 = count_push xs in omega (arith, more)

pub NoMarks-unmarked : (named : ℕ → Bool) (p : ℕ) (ls : List (List Entry)) → EndMarks named p ls → ((n : ℕ) → count same_entry Mark (slice_index_or ls n []) ≤ 1) → NoMarks named p (unmarked named p ls)
NoMarks-unmarked named p [] h one = tt
NoMarks-unmarked named p (l ∷ ls) h one = (
  λ e. rw e (has-count same_entry tells_entry Mark (front l)
      (let a : count same_entry Mark (front l ++ Mark ∷ []) ≡ count same_entry Mark l = ap (count same_entry Mark) (h.0 e) in
      let b : count same_entry Mark l ≤ 1 = one 0 in
      omega (arith, a, b, count_push (front l)))),
  NoMarks-unmarked named (suc p) ls h.1 (λ n. one (suc n)),
)

undo-marks_in : (s : State) (set : ClassSet) → Ready (MarksIn set) s → Undoes (MarksIn set) s
undo-marks_in s set r = record {
  back = ap (λ q. record s { queues = q }) (unmarked-marked (names s set) 0 s.queues);
  same = refl;
  ready = (r.0, EndMarks-marked (names s set) 0 s.queues);
}

undo-marks_out : (s : State) → WellFormed s → (set : ClassSet) → Ready (MarksOut set) s → Undoes (MarksOut set) s
undo-marks_out s well set r = record {
  back = ap (λ q. record s { queues = q }) (marked-unmarked (names s set) 0 s.queues r.1);
  same = refl;
  ready = (r.0, NoMarks-unmarked (names s set) 0 s.queues r.1 well.lists.one_mark);
}

-- each move that is ready in a well-formed state is undone by its reverse
undo-set : (s : State) (p : GlobalPart) → Undoes (Sets p) s
undo-set s (LastCas n) = record { back = refl; same = refl; ready = tt }
undo-set s (Timing t) = record { back = refl; same = refl; ready = tt }
undo-set s (Mover m) = record { back = refl; same = refl; ready = tt }
undo-set s (Settings w) = record { back = refl; same = refl; ready = tt }

pub undo : (m : Move) (s : State) → WellFormed s → Ready m s → Undoes m s
undo (Takes (InFree c x)) s well r = undo-take_free s well c x r
undo (Takes (InQueue c q e)) s well r = undo-take_queue s well c q e r
undo (Puts (ToFree c x a)) s well r = undo-put_free s well c x a r
undo (Puts (ToQueue c q e a)) s well r = undo-put_queue s well c q e a r
undo (Fills x o) s well r = undo-fill s x o r
undo (Touches x t) s well r = undo-touch s x t r
undo (Binds x) s well r = undo-bind s x r
undo (Unbinds x) s well r = undo-unbind s x r
undo (Lays p c n f) s well r = undo-lay s p c n f r
undo (Lifts p f) s well r = undo-lift s p f r
undo (Counts c k v) s well r = undo-count s c k v r
undo (Sets p) s well r = undo-set s p
undo (BumpsIn b) s well r = undo-bump_in s b
undo BumpsBack s well r = undo-bump_back s s.bump r
undo BumpsOut s well r = undo-bump_out s s.bump r
undo (BumpsFront b) s well r = undo-bump_front s b
undo (Shifts a b) s well r = undo-shift s well a b r
undo (MarksIn set) s well r = undo-marks_in s set r
undo (MarksOut set) s well r = undo-marks_out s well set r

-- a move that is possible has a reverse that is possible after it
pub possible_back : (m : Move) (s : State) → WellFormed s → Possible m s → Possible (reverse m s) (moved m s)
possible_back m s well possible =
    let u = undo m s well possible.ready in
    record { ready = u.ready; after = subst WellFormed (sym u.back) well }

-- a record with one more move behind
pub turned-push : (ms : List Move) (m : Move) (s : State) → turned (ms ++ m ∷ []) s ≡ ((turned ms (moved m s)).0, reverse m s ∷ (turned ms (moved m s)).1)
turned-push [] m s = refl
turned-push (x ∷ xs) m s = ap (λ (t : State × List Move). (moved x t.0, t.1 ++ reverse x t.0 ∷ [])) (turned-push xs m s)

pub Fits-push : (ms : List Move) (m : Move) (s : State) → Possible m s → Fits ms (moved m s) → Fits (ms ++ m ∷ []) s
Fits-push [] m s p f = (tt, p)
Fits-push (x ∷ xs) m s p f = (Fits-push xs m s p f.0, subst (λ (t : State × List Move). Possible x t.0) (sym (turned-push xs m s)) f.1)

pub turned_well : (ms : List Move) (s : State) → WellFormed s → Fits ms s → WellFormed (turned ms s).0
turned_well [] s well f = well
turned_well (m ∷ ms) s well f = f.1.after

-- what a turn gives fits where it leads, and turning it leads back and gives the record
pub record TurnsBack (ms : List Move) (s : State) : Type 0 where
  pub fits : Fits (turned ms s).1 (turned ms s).0
  pub back : turned (turned ms s).1 (turned ms s).0 ≡ (s, ms)

pub turns_back : (ms : List Move) (s : State) → WellFormed s → Fits ms s → TurnsBack ms s
turns_back [] s well f = record { fits = tt; back = refl }
turns_back (m ∷ ms) s well f =
    let before_it = (turned ms s).0 in
    let rest = (turned ms s).1 in
    let there = turned_well ms s well f.0 in
    let u = undo m before_it there f.1.ready in
    let r = reverse m before_it in
    let t = moved m before_it in
    let below = turns_back ms s well f.0 in
    record {
      fits = Fits-push rest r t (possible_back m before_it there f.1) (subst (Fits rest) (sym u.back) below.fits);
      back = turned-push rest r t
          ∙ ap (λ (x : State). ((turned rest x).0, reverse r t ∷ (turned rest x).1)) u.back
          ∙ ap (λ (y : Move). ((turned rest before_it).0, y ∷ (turned rest before_it).1)) u.same
          ∙ ap (λ (p : State × List Move). (p.0, m ∷ p.1)) below.back;
    }

pub leads_none : (s : State) → LeadsBack [] s s
leads_none s = record { fits = tt; there = refl }

pub leads_more : (ms : List Move) (m : Move) (s first : State) → WellFormed s → Possible m s → LeadsBack ms s first → LeadsBack (ms ++ reverse m s ∷ []) (moved m s) first
leads_more ms m s first well possible leads =
    let u = undo m s well possible.ready in
    record {
      fits = Fits-push ms (reverse m s) (moved m s) (possible_back m s well possible) (subst (Fits ms) (sym u.back) leads.fits);
      there = ap (λ (t : State × List Move). t.0) (turned-push ms (reverse m s) (moved m s)) ∙ ap (λ (t : State). (turned ms t).0) u.back ∙ leads.there;
    }
