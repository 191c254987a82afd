-- An item goes to another chunk: its entry is exchanged in place, and its key leads to the other chunk.
use Rattle.std.specs.Prelude.{ℕ, ◌≡◌, ◌+◌, ◌<◌, ◌≤◌, true, false, cond, List, [], ◌∷◌, Option, None, Some, length, slice_index_or, slice_set, zero, suc, refl, map as map_list}
use Rattle.std.proofs.Common.{sym, ◌∙◌, ap, subst, arith, inl, inr}
use Rattle.std.proofs.lemmas.Bool.{cases_Bool, cases_eq, false≢true, true≢false}
use Rattle.std.proofs.lemmas.List.{get_or-set_same, get_or-set_other, set-set}
use Rattle.std.proofs.lemmas.List.Sums.{sum_by-cons}
use Rattle.std.specs.List.{sum_by}
use Rattle.std.specs.FinMap as map
use Rattle.std.specs.Ordering.{nat_cmp, eq_by_cmp}
use Rattle.std.specs.Cmp.{IsTotalOrder}
use Rattle.std.specs.Cmp.Lexicographic.{slice_cmp, nat_list_cmp_total}
use Rattle.std.specs.declared.cmp.Ordering.{Ordering}
use Rattle.rev_items.specs.Plain.{PlainItem}
use Rattle.rev_links.specs.Rings.{In}
use Rattle.rev_model.specs.Chunk.{same_entry}
use Rattle.rev_model.proofs.Chunks.{chunk_cmp_exact, chunk_cmp_total}
use Rattle.rev_model.specs.Lists.{has, distinct, count, without, before_from, before, insert, has_after}
use Rattle.rev_model.proofs.ListLaws.{has_after-before, has-without}
use Rattle.rev_model.specs.State.{State, Contents, Keys, Fixed, WellFormed, WellIndexed, IsChunkOf, queue_of, queue_place, owner_of}
use Rattle.rev_model.specs.Move.{Shifts, Possible, put_at, exchanged, carried, rebound, shifted}
use Rattle.rev_model.proofs.Undo.{tells_entry, count-has, count_in_table, queue_distinct, in_no_queue, get-put_at, get-put_at_same, tied_self, at_map, has-exchanged}
use Rattle.rev_model.specs.Words.{weight, size_of, queue_among}
use Rattle.std.specs.Prelude.{slice_index}
use Rattle.rev_pages.specs.State.{PagesState}
use Rattle.rev_queues.specs.Entries.{Queued, entries, queued_with, without_entry, insert_entry}
use Rattle.rev_queues.proofs.Entries.{entries-at, entries-taken, entries-put}
use Rattle.rev_queues.specs.QueueState.{QueuesState}
use Rattle.rev_index.specs.Index.{PlainIndex, bound, unbound}
use Rattle.rev_inverse.specs.Fitted.{Fitted}
use Rattle.rev_inverse.proofs.Fits.{In-has, weight_other, fitted_taken, fitted_put}
use Rattle.rev_model.specs.declared.Queue.TheVariants.{Hot, Warm, Cold, Temp}
use Rattle.rev_model.specs.declared.ChunkRef.{ChunkRef}
use Rattle.rev_model.specs.declared.Queue.{Queue}
use Rattle.rev_model.specs.declared.Entry.{Entry}
use Rattle.rev_model.specs.declared.Entry.TheVariants.{Chunk}

-- ---- one queue
differs : (x y : Entry) → same_entry x y ≡ false → same_entry y x ≡ false
differs x y d = elim (cases_Bool (same_entry y x)) [
  | inl e ↦ absurd (true≢false (sym (ap (λ z. same_entry z y) (sym (tells_entry.exact y x e)) ∙ tells_entry.self y) ∙ d))
  | inr e ↦ e
]

-- what stands before a behind z is no y that is not there
skip : (a b y z : Entry) (zs l : List Entry) → has same_entry y (z ∷ zs) ≡ false → insert same_entry b (before_from same_entry a (Some z) zs) (y ∷ l) ≡ y ∷ insert same_entry b (before_from same_entry a (Some z) zs) l
skip a b y z [] l gone = elim (cases_Bool (same_entry y z)) [
  | inl e ↦ absurd (true≢false (rw e at gone))
  | inr e ↦ rw (differs y z e) refl
]
skip a b y z (u ∷ us) l gone = elim (cases_Bool (same_entry y z)) [
  | inl e ↦ absurd (true≢false (rw e at gone))
  | inr e ↦ elim (cases_Bool (same_entry a u)) [
    | inl f ↦ rw (f, differs y z e) refl
    | inr f ↦ rw f (skip a b y u us l (rw e at gone))
  ]
]

-- a list without the entry stays as it is
exchanged_none : (a b : Entry) (l : List Entry) → has same_entry a l ≡ false → exchanged a b l ≡ l
exchanged_none a b [] h = refl
exchanged_none a b (e ∷ es) h = elim (cases_Bool (same_entry a e)) [
  | inl f ↦ absurd (true≢false (rw f at h))
  | inr f ↦ rw f (ap (λ l. e ∷ l) (exchanged_none a b es (rw f at h)))
]

exchange_from : (a b y : Entry) (ys : List Entry) → has same_entry a ys ≡ true → distinct same_entry (y ∷ ys) ≡ true → insert same_entry b (before_from same_entry a (Some y) ys) (y ∷ without same_entry a ys) ≡ y ∷ exchanged a b ys
exchange_from a b y [] h d = absurd (false≢true h)
exchange_from a b y (z ∷ zs) h d = elim (cases_Bool (has same_entry y (z ∷ zs))) [
  | inl f ↦ absurd (false≢true (rw f at d))
  | inr f ↦ elim (cases_Bool (has same_entry z zs)) [
    | inl k ↦ absurd (false≢true (rw (f, k) at d))
    | inr k ↦ elim (cases_Bool (same_entry a z)) [
      | inl e ↦ rw (e, tells_entry.self y) (ap (λ l. y ∷ b ∷ l) (sym (exchanged_none a b zs (ap (λ w. has same_entry w zs) (tells_entry.exact a z e) ∙ k))))
      | inr e ↦ rw e (skip a b y z zs (z ∷ without same_entry a zs) f ∙ ap (λ l. y ∷ l) (exchange_from a b z zs (rw e at h) (rw f at d)))
    ]
  ]
]

-- an entry that leaves, and another that enters behind what stood before it: exchanged in place
pub put_exchanged : (a b : Entry) (l : List Entry) → has same_entry a l ≡ true → distinct same_entry l ≡ true → insert same_entry b (before same_entry a l) (without same_entry a l) ≡ exchanged a b l
put_exchanged a b [] h d = absurd (false≢true h)
put_exchanged a b (y ∷ ys) h d = elim (cases_Bool (has same_entry y ys)) [
  | inl f ↦ absurd (false≢true (rw f at d))
  | inr f ↦ elim (cases_Bool (same_entry a y)) [
    | inl e ↦ rw e (ap (λ l. b ∷ l) (sym (exchanged_none a b ys (ap (λ w. has same_entry w ys) (tells_entry.exact a y e) ∙ f))))
    | inr e ↦ rw e (exchange_from a b y ys (rw e at h) d)
  ]
]

-- ---- all queues
no_exchange : (a b : Entry) (ls : List (List Entry)) → ((k : ℕ) → has same_entry a (slice_index_or ls k []) ≡ false) → map_list (exchanged a b) ls ≡ ls
no_exchange a b [] h = refl
no_exchange a b (l ∷ ls) h = λ i. exchanged_none a b l (h 0) i ∷ no_exchange a b ls (λ k. h (suc k)) i

one_exchange : (a b : Entry) (ls : List (List Entry)) (n : ℕ) → n < length ls → ((k : ℕ) → (k ≡ n → ⊥) → has same_entry a (slice_index_or ls k []) ≡ false) → slice_set ls n (exchanged a b (slice_index_or ls n [])) ≡ map_list (exchanged a b) ls
one_exchange a b [] n lt h = absurd (omega (arith, lt))
one_exchange a b (l ∷ ls) zero lt h = ap (λ k. exchanged a b l ∷ k) (sym (no_exchange a b ls (λ k. h (suc k) (λ e. omega (arith, e)))))
one_exchange a b (l ∷ ls) (suc n) lt h = λ i. sym (exchanged_none a b l (h 0 (λ e. omega (arith, e)))) i ∷ one_exchange a b ls n (omega (arith, lt)) (λ k ne. h (suc k) (λ e. ne (omega (arith, e)))) i

-- two lists of a table have no more together than the table
two_lists : (a : Entry) (ls : List (List Entry)) (n k : ℕ) → (k ≡ n → ⊥) → count same_entry a (slice_index_or ls n []) + count same_entry a (slice_index_or ls k []) ≤ sum_by (count same_entry a) ls
two_lists a [] n k ne = omega arith
two_lists a (l ∷ ls) zero zero ne = absurd (ne refl)
two_lists a (l ∷ ls) zero (suc k) ne = omega (arith, sum_by-cons (count same_entry a) l ls, count_in_table same_entry tells_entry a ls k)
two_lists a (l ∷ ls) (suc n) zero ne = omega (arith, sum_by-cons (count same_entry a) l ls, count_in_table same_entry tells_entry a ls n)
two_lists a (l ∷ ls) (suc n) (suc k) ne = omega (arith, sum_by-cons (count same_entry a) l ls, two_lists a ls n k (λ e. ne (ap suc e)))

lacks_others : (s : State) → WellFormed s → (x : ChunkRef) (n : ℕ) → has same_entry (Chunk x) (slice_index_or s.queues n []) ≡ true → (k : ℕ) → (k ≡ n → ⊥) → has same_entry (Chunk x) (slice_index_or s.queues k []) ≡ false
lacks_others s well x n h k ne = elim (cases_Bool (has same_entry (Chunk x) (slice_index_or s.queues k []))) [
  | inl e ↦ absurd (omega (arith, count-has same_entry tells_entry (Chunk x) (slice_index_or s.queues n []) h, count-has same_entry tells_entry (Chunk x) (slice_index_or s.queues k []) e, two_lists (Chunk x) s.queues n k ne, well.lists.once x))
  | inr e ↦ e
]

-- ---- maps
module _ {K X : Type 0} {R : K → K → Ordering} (total : IsTotalOrder R) (exact : map.IsAntisymmetric R) where
  pub put_twice : (m : map.FinMap R X) (k : K) (o p : Option X) → put_at (put_at m k o) k p ≡ put_at m k p
  put_twice m k o p = map.same_map total exact _ _ (λ q.
      get-put_at total exact (put_at m k o) k p q ∙ elim (cases_Bool (eq_by_cmp R q k)) as (λ _. cond (eq_by_cmp R q k) p (map.get (put_at m k o) q) ≡ map.get (put_at m k p) q) [
        | inl e ↦ rw e (sym (get-put_at total exact m k p q ∙ ap (λ b. cond b p (map.get m q)) e))
        | inr e ↦ rw e (get-put_at total exact m k o q ∙ ap (λ b. cond b o (map.get m q)) e ∙ sym (get-put_at total exact m k p q ∙ ap (λ b. cond b p (map.get m q)) e))
      ])

keys_exact : map.IsAntisymmetric (slice_cmp nat_cmp)
keys_exact = map.slice_cmp-IsAntisymmetric map.nat_cmp-IsAntisymmetric

some_inj : {X : Type 0} (x y : X) → Some x ≡ Some y → x ≡ y
some_inj x y e = cc

none_some : {X : Type 0} (y : X) → None ≡ Some y → ⊥
none_some y e = cc

-- no other key leads to a chunk than its item's
pub no_key : (m : Contents) (keys : Keys) (x : ChunkRef) (i : PlainItem) → WellIndexed m keys → map.get m x ≡ Some i → (k : List ℕ) → map.get (map.remove keys i.key) k ≡ Some x → ⊥
no_key m keys x i well e k f =
    let got = map.get-remove nat_list_cmp_total keys i.key k in
    elim (cases_Bool (eq_by_cmp (slice_cmp nat_cmp) k i.key)) [
      | inl g ↦ none_some x (sym (got ∙ ap (λ b. cond b None (map.get keys k)) g) ∙ f)
      | inr g ↦
          let w = well.indexed k x (sym (got ∙ ap (λ b. cond b None (map.get keys k)) g) ∙ f) in
          let same : i.key ≡ k = ap (λ (j : PlainItem). j.key) (some_inj i w.0 (sym e ∙ w.1)) ∙ w.2 in
          true≢false (sym (same_key k i.key (sym same)) ∙ g)
    ]
  where
    same_key : (k l : List ℕ) → k ≡ l → eq_by_cmp (slice_cmp nat_cmp) k l ≡ true
    same_key k l e = ap (eq_by_cmp (slice_cmp nat_cmp) k) (sym e) ∙ tied_self nat_list_cmp_total keys_exact k

-- nor does any key lead to an empty chunk
pub no_key_of_none : (m : Contents) (keys : Keys) (x : ChunkRef) (i : PlainItem) → WellIndexed m keys → map.get m x ≡ None → (k : List ℕ) → map.get (map.remove keys i.key) k ≡ Some x → ⊥
no_key_of_none m keys x i well e k f =
    let got = map.get-remove nat_list_cmp_total keys i.key k in
    elim (cases_Bool (eq_by_cmp (slice_cmp nat_cmp) k i.key)) [
      | inl g ↦ none_some x (sym (got ∙ ap (λ b. cond b None (map.get keys k)) g) ∙ f)
      | inr g ↦
          let w = well.indexed k x (sym (got ∙ ap (λ b. cond b None (map.get keys k)) g) ∙ f) in
          none_some w.0 (sym e ∙ w.1)
    ]

-- ---- the index: the key is unbound, the item goes, the key is bound again
carried_there : (m : Contents) (x y : ChunkRef) → map.get (carried m x y) y ≡ map.get m x
carried_there m x y = get-put_at_same chunk_cmp_total chunk_cmp_exact (put_at m x None) y (map.get m x)

keys_carried : (keys : Keys) (y : ChunkRef) (o : Option PlainItem) → bound y o (unbound o keys) ≡ rebound y o keys
keys_carried keys y None = refl
keys_carried keys y (Some i) = put_twice nat_list_cmp_total keys_exact keys i.key None (Some y)

pub carried_index : (x u v w z : PlainIndex) (from to : ChunkRef) (item : Option PlainItem)
    → u ≡ record x { keys = unbound (map.get x.content from) x.keys }
    → item ≡ map.get u.content from
    → v ≡ record u { content = put_at u.content from None }
    → w ≡ record v { content = put_at v.content to item }
    → z ≡ record w { keys = bound to (map.get w.content to) w.keys }
    → z ≡ record x { content = carried x.content from to; keys = rebound to (map.get x.content from) x.keys }
carried_index x u v w z from to item eu ei ev ew ez =
    let is : item ≡ map.get x.content from = ei ∙ ap (λ (p : PlainIndex). map.get p.content from) eu in
    let vs : v ≡ record x { content = put_at x.content from None; keys = unbound (map.get x.content from) x.keys } = ev ∙ ap (λ (p : PlainIndex). record p { content = put_at p.content from None }) eu in
    let ws : w ≡ record x { content = carried x.content from to; keys = unbound (map.get x.content from) x.keys } = ew ∙ ap (λ (p : PlainIndex). record p { content = put_at p.content to item }) vs ∙ ap (λ o. record x { content = put_at (put_at x.content from None) to o; keys = unbound (map.get x.content from) x.keys }) is in
    ez ∙ ap (λ (p : PlainIndex). record p { keys = bound to (map.get p.content to) p.keys }) ws
    ∙ ap (λ k. record x { content = carried x.content from to; keys = k }) (ap (λ o. bound to o (unbound (map.get x.content from) x.keys)) (carried_there x.content from to) ∙ keys_carried x.keys to (map.get x.content from))

-- what is asked on the way
pub unbound_from : (x u : PlainIndex) (from : ChunkRef) → u ≡ record x { keys = unbound (map.get x.content from) x.keys } → (i : PlainItem) → map.get x.content from ≡ Some i → WellIndexed x.content x.keys → (k : List ℕ) → map.get u.keys k ≡ Some from → ⊥
unbound_from x u from eu i e well k f = no_key x.content x.keys from i well e k (sym (ap (λ (p : PlainIndex). map.get p.keys k) eu ∙ ap (λ o. map.get (unbound o x.keys) k) e) ∙ f)

pub unbound_to : (x u v : PlainIndex) (from to : ChunkRef) → u ≡ record x { keys = unbound (map.get x.content from) x.keys } → v ≡ record u { content = put_at u.content from None } → (i : PlainItem) → map.get x.content from ≡ Some i → map.get x.content to ≡ None → WellIndexed x.content x.keys → (k : List ℕ) → map.get v.keys k ≡ Some to → ⊥
unbound_to x u v from to eu ev i e none well k f = no_key_of_none x.content x.keys to i well none k (sym (ap (λ (p : PlainIndex). map.get p.keys k) ev ∙ ap (λ (p : PlainIndex). map.get p.keys k) eu ∙ ap (λ o. map.get (unbound o x.keys) k) e) ∙ f)

pub carried_bind : (x u v w : PlainIndex) (from to : ChunkRef) (item : Option PlainItem)
    → u ≡ record x { keys = unbound (map.get x.content from) x.keys }
    → item ≡ map.get u.content from
    → v ≡ record u { content = put_at u.content from None }
    → w ≡ record v { content = put_at v.content to item }
    → (i : PlainItem) → map.get x.content from ≡ Some i
    → (j : PlainItem) × (map.get w.content to ≡ Some j) × (map.get w.keys j.key ≡ None)
carried_bind x u v w from to item eu ei ev ew i e =
    let got : map.get w.content to ≡ item = ap (λ (p : PlainIndex). map.get p.content to) ew ∙ get-put_at_same chunk_cmp_total chunk_cmp_exact v.content to item in
    let keys : w.keys ≡ unbound (map.get x.content from) x.keys = ap (λ (p : PlainIndex). p.keys) ew ∙ ap (λ (p : PlainIndex). p.keys) ev ∙ ap (λ (p : PlainIndex). p.keys) eu in (
      i,
      got ∙ ei ∙ ap (λ (p : PlainIndex). map.get p.content from) eu ∙ e,
      ap (λ m. map.get m i.key) (keys ∙ ap (λ o. unbound o x.keys) e) ∙ get-put_at_same nat_list_cmp_total keys_exact x.keys i.key None,
    )

-- ---- the whole move
among_there : (queues : List (List Entry)) (c : ℕ) (x : ChunkRef) (q : Queue) → has same_entry (Chunk x) (slice_index_or queues (queue_place c q) []) ≡ true → has same_entry (Chunk x) (slice_index_or queues (queue_place c (queue_among queues c x)) []) ≡ true
among_there queues c x q h = elim (cases_Bool (has same_entry (Chunk x) (slice_index_or queues (queue_place c Hot) []))) [
  | inl a ↦ rw a a
  | inr a ↦ elim (cases_Bool (has same_entry (Chunk x) (slice_index_or queues (queue_place c Warm) []))) [
    | inl b ↦ rw (a, b) b
    | inr b ↦ elim (cases_Bool (has same_entry (Chunk x) (slice_index_or queues (queue_place c Cold) []))) [
      | inl d ↦ rw (a, b, d) d
      | inr d ↦ rw (a, b, d) (last q h a b d)
    ]
  ]
]
  where
    last : (q : Queue) → has same_entry (Chunk x) (slice_index_or queues (queue_place c q) []) ≡ true → has same_entry (Chunk x) (slice_index_or queues (queue_place c Hot) []) ≡ false → has same_entry (Chunk x) (slice_index_or queues (queue_place c Warm) []) ≡ false → has same_entry (Chunk x) (slice_index_or queues (queue_place c Cold) []) ≡ false → has same_entry (Chunk x) (slice_index_or queues (queue_place c Temp) []) ≡ true
    last Hot h a b d = absurd (true≢false (sym h ∙ a))
    last Warm h a b d = absurd (true≢false (sym h ∙ b))
    last Cold h a b d = absurd (true≢false (sym h ∙ d))
    last Temp h a b d = h

lacks_without : (x y : Entry) (l : List Entry) → has same_entry y l ≡ false → has same_entry y (without same_entry x l) ≡ false
lacks_without x y [] h = h
lacks_without x y (e ∷ es) h = elim (cases_Bool (same_entry y e)) [
  | inl f ↦ absurd (true≢false (rw f at h))
  | inr f ↦ elim (cases_Bool (same_entry x e)) [ inl g ↦ rw g (rw f at h) | inr g ↦ rw (g, f) (lacks_without x y es (rw f at h)) ]
]

in_range : (x : Entry) (ls : List (List Entry)) (n : ℕ) → has same_entry x (slice_index_or ls n []) ≡ true → n < length ls
in_range x [] n h = absurd (false≢true h)
in_range x (l ∷ ls) zero h = omega arith
in_range x (l ∷ ls) (suc n) h = let more : n < length ls = in_range x ls n h in omega (arith, more)

-- what the parts ask, and what the queues are in the end
pub record ShiftFits (s : State) (a b : ChunkRef) (c : ℕ) (q : Queue) : Type 0 where
  pub there : has same_entry (Chunk a) (queue_of s c q) ≡ true
  pub place : queue_place c q < length s.queues
  pub temp : queue_place c Temp < length s.queues
  pub from : IsChunkOf s.fixed s.owner c a
  pub to : IsChunkOf s.fixed s.owner c b
  pub gone : (k : ℕ) → has same_entry (Chunk b) (slice_index_or (slice_set s.queues (queue_place c q) (without same_entry (Chunk a) (queue_of s c q))) k []) ≡ false
  pub left : (k : ℕ) → has same_entry (Chunk a) (slice_index_or (slice_set s.queues (queue_place c q) (without same_entry (Chunk a) (queue_of s c q))) k []) ≡ false
  pub after : has_after same_entry (before same_entry (Chunk a) (queue_of s c q)) (slice_index_or (slice_set s.queues (queue_place c q) (without same_entry (Chunk a) (queue_of s c q))) (queue_place c q) []) ≡ true
  pub table : slice_set (slice_set s.queues (queue_place c q) (without same_entry (Chunk a) (queue_of s c q))) (queue_place c q) (insert same_entry (Chunk b) (before same_entry (Chunk a) (queue_of s c q)) (slice_index_or (slice_set s.queues (queue_place c q) (without same_entry (Chunk a) (queue_of s c q))) (queue_place c q) [])) ≡ map_list (exchanged (Chunk a) (Chunk b)) s.queues

module _ (s : State) (well : WellFormed s) (a b : ChunkRef) (p : Possible (Shifts a b) s) where
  -- the class of the queue is that of the page
  pub shift_stands : (q : Queue) × (has same_entry (Chunk a) (queue_of s (owner_of s a.page) q) ≡ true)
  shift_stands =
      let stood = p.ready.5 in
      let of = well.lists.queued_of_class stood.0 stood.1 a stood.2 in
      (stood.1, ap (λ c. has same_entry (Chunk a) (queue_of s c stood.1)) of.owned ∙ stood.2)

  pub shift_fits : ShiftFits s a b (owner_of s a.page) (queue_among s.queues (owner_of s a.page) a)
  shift_fits =
      let c = owner_of s a.page in
      let q = queue_among s.queues (owner_of s a.page) a in
      let n = queue_place c q in
      let l = queue_of s c q in
      let there : has same_entry (Chunk a) (queue_of s c q) ≡ true = among_there s.queues c a shift_stands.0 shift_stands.1 in
      let lt : queue_place c q < length s.queues = in_range (Chunk a) s.queues n there in
      let got : slice_index_or (slice_set s.queues n (without same_entry (Chunk a) l)) n [] ≡ without same_entry (Chunk a) l = get_or-set_same s.queues n (without same_entry (Chunk a) l) [] lt in
      let of = well.lists.queued_of_class c q a there in
      let next : has same_entry (Chunk b) (queue_of (shifted a b s) c q) ≡ true = ap (has same_entry (Chunk b)) (at_map (exchanged (Chunk a) (Chunk b)) refl s.queues n) ∙ has-exchanged (Chunk a) (Chunk b) l there in
      let none : (k : ℕ) → has same_entry (Chunk b) (slice_index_or s.queues k []) ≡ false = in_no_queue s b p.ready.4 in
      let apart : distinct same_entry (queue_of s c q) ≡ true = queue_distinct s well c q in
      record {
        there = there;
        place = lt;
        temp = top c q of lt;
        from = of;
        to = p.after.lists.queued_of_class c q b next;
        gone = λ k. elim (cases_eq k n) [
          | inl e ↦ ap (λ j. has same_entry (Chunk b) (slice_index_or (slice_set s.queues n (without same_entry (Chunk a) l)) j [])) e ∙ ap (has same_entry (Chunk b)) got ∙ lacks_without (Chunk a) (Chunk b) l (none n)
          | inr ne ↦ ap (has same_entry (Chunk b)) (get_or-set_other s.queues n k (without same_entry (Chunk a) l) [] ne) ∙ none k
        ];
        left = λ k. elim (cases_eq k n) [
          | inl e ↦ ap (λ j. has same_entry (Chunk a) (slice_index_or (slice_set s.queues n (without same_entry (Chunk a) l)) j [])) e ∙ ap (has same_entry (Chunk a)) got ∙ has-without same_entry tells_entry (Chunk a) l apart
          | inr ne ↦ ap (has same_entry (Chunk a)) (get_or-set_other s.queues n k (without same_entry (Chunk a) l) [] ne) ∙ lacks_others s well a n there k ne
        ];
        after = ap (has_after same_entry (before same_entry (Chunk a) l)) got ∙ has_after-before same_entry tells_entry (Chunk a) l there;
        table = ap (λ k. slice_set (slice_set s.queues n (without same_entry (Chunk a) l)) n (insert same_entry (Chunk b) (before same_entry (Chunk a) l) k)) got
            ∙ set-set s.queues n (without same_entry (Chunk a) l) (insert same_entry (Chunk b) (before same_entry (Chunk a) l) (without same_entry (Chunk a) l))
            ∙ ap (slice_set s.queues n) (put_exchanged (Chunk a) (Chunk b) l there apart)
            ∙ one_exchange (Chunk a) (Chunk b) s.queues n lt (lacks_others s well a n there);
      }
    where
      top : (c : ℕ) (q : Queue) → IsChunkOf s.fixed s.owner c a → queue_place c q < length s.queues → queue_place c Temp < length s.queues
      top c q of lt = let last : slice_index s.owner a.page ≤ length s.fixed.sizes = well.owned.owners a.page in omega (arith, of.owned, last, well.lists.queues_length)

-- ---- the footprints told
carried_other : (m : Contents) (x y : ChunkRef) (d : Entry) → (d ≡ Chunk x → ⊥) → (d ≡ Chunk y → ⊥) → weight (carried m x y) d ≡ weight m d
carried_other m x y d nx ny = weight_other (put_at m x None) y (map.get m x) d ny ∙ weight_other m x None d nx

no_member : (x : Entry) (l : List Queued) (d : Queued) → In d l → has same_entry x (entries l) ≡ false → d.entry ≡ x → ⊥
no_member x l d m h e = true≢false (sym (ap (λ z. has same_entry z (entries l)) (sym e) ∙ In-has d l m) ∙ h)

pub fitted_shifted : (f : Fixed) (pages : PagesState) (q q' q'' : QueuesState) (x x' : PlainIndex) (capacity : ℕ) (a b : ChunkRef) (place n : ℕ) (after : Option Entry)
    → Fitted f pages q x capacity
    → q' ≡ record q { queues = slice_set q.queues place (without_entry (Chunk a) (slice_index_or q.queues place [])) }
    → x' ≡ record x { content = carried x.content a b; keys = rebound b (map.get x.content a) x.keys }
    → q'' ≡ record q' { queues = slice_set q'.queues place (insert_entry (queued_with (Chunk b) n) after (slice_index_or q'.queues place [])) }
    → n ≡ weight x.content (Chunk a)
    → ((k : ℕ) → has same_entry (Chunk a) (entries (slice_index_or q'.queues k [])) ≡ false)
    → ((k : ℕ) → has same_entry (Chunk b) (entries (slice_index_or q'.queues k [])) ≡ false)
    → Fitted f pages q'' x' capacity
fitted_shifted f pages q q' q'' x x' capacity a b place n after fitted e ex e' told gone_a gone_b =
    let first = fitted_taken f pages q x capacity fitted q' place (Chunk a) e in
    let middle : Fitted f pages q' (record x { content = carried x.content a b; keys = rebound b (map.get x.content a) x.keys }) capacity = record {
      table = first.table;
      slots = first.slots;
      in_queues = first.in_queues;
      in_index = first.in_index;
      told = λ k d m. first.told k d m ∙ sym (carried_other x.content a b d.entry (no_member (Chunk a) _ d m (gone_a k)) (no_member (Chunk b) _ d m (gone_b k)));
      bump = first.bump;
      limit = first.limit;
    } in
    let w : n ≡ weight x'.content (Chunk b) = told ∙ sym (ap (λ (p : PlainIndex). weight p.content (Chunk b)) ex ∙ ap size_of (carried_there x.content a b)) in
    fitted_put f pages q' x' capacity (subst (λ p. Fitted f pages q' p capacity) (sym ex) middle) q'' place (Chunk b) after n w e'

pub shift_fits_at : (s : State) → WellFormed s → (a b : ChunkRef) → Possible (Shifts a b) s → (c : ℕ) (q : Queue) → c ≡ owner_of s a.page → q ≡ queue_among s.queues c a → ShiftFits s a b c q
shift_fits_at s well a b p c q ec eq =
    let h = shift_fits s well a b p in
    let hc : ShiftFits s a b c (queue_among s.queues c a) = subst (λ k. ShiftFits s a b k (queue_among s.queues k a)) (sym ec) h in
    subst (ShiftFits s a b c) (sym eq) hc

-- the same of the queues with their footprints
module _ (s : State) (a b : ChunkRef) (c : ℕ) (q : Queue) (fits : ShiftFits s a b c q) (qs : List (List Queued)) (is : s.queues ≡ map_list entries qs) where
  pub entries_there : has same_entry (Chunk a) (entries (slice_index_or qs (queue_place c q) [])) ≡ true
  entries_there = ap (has same_entry (Chunk a)) (sym (entries-at qs (queue_place c q)) ∙ ap (λ t. slice_index_or t (queue_place c q) []) (sym is)) ∙ fits.there

module _ (s : State) (a b : ChunkRef) (c : ℕ) (q : Queue) (fits : ShiftFits s a b c q) (qs qs' : List (List Queued)) (is : s.queues ≡ map_list entries qs) (taken : qs' ≡ slice_set qs (queue_place c q) (without_entry (Chunk a) (slice_index_or qs (queue_place c q) []))) where
  entries_left : map_list entries qs' ≡ slice_set s.queues (queue_place c q) (without same_entry (Chunk a) (queue_of s c q))
  entries_left = ap (map_list entries) taken ∙ entries-taken qs (queue_place c q) (Chunk a) ∙ ap (λ t. slice_set t (queue_place c q) (without same_entry (Chunk a) (slice_index_or t (queue_place c q) []))) (sym is)

  at_left : (k : ℕ) → entries (slice_index_or qs' k []) ≡ slice_index_or (slice_set s.queues (queue_place c q) (without same_entry (Chunk a) (queue_of s c q))) k []
  at_left k = sym (entries-at qs' k) ∙ ap (λ t. slice_index_or t k []) entries_left

  pub to_gone : (k : ℕ) → has same_entry (Chunk b) (entries (slice_index_or qs' k [])) ≡ false
  to_gone k = ap (has same_entry (Chunk b)) (at_left k) ∙ fits.gone k

  pub from_gone : (k : ℕ) → has same_entry (Chunk a) (entries (slice_index_or qs' k [])) ≡ false
  from_gone k = ap (has same_entry (Chunk a)) (at_left k) ∙ fits.left k

  before_is : (o : Option Entry) → o ≡ before same_entry (Chunk a) (entries (slice_index_or qs (queue_place c q) [])) → o ≡ before same_entry (Chunk a) (queue_of s c q)
  before_is o e = e ∙ ap (before same_entry (Chunk a)) (sym (entries-at qs (queue_place c q)) ∙ ap (λ t. slice_index_or t (queue_place c q) []) (sym is))

  pub before_stays : (o : Option Entry) → o ≡ before same_entry (Chunk a) (entries (slice_index_or qs (queue_place c q) [])) → has_after same_entry o (entries (slice_index_or qs' (queue_place c q) [])) ≡ true
  before_stays o e = ap (λ k. has_after same_entry k (entries (slice_index_or qs' (queue_place c q) []))) (before_is o e) ∙ ap (has_after same_entry (before same_entry (Chunk a) (queue_of s c q))) (at_left (queue_place c q)) ∙ fits.after

  pub queues_shifted : (qs'' : List (List Queued)) (o : Option Entry) (n : ℕ) → o ≡ before same_entry (Chunk a) (entries (slice_index_or qs (queue_place c q) [])) → qs'' ≡ slice_set qs' (queue_place c q) (insert_entry (queued_with (Chunk b) n) o (slice_index_or qs' (queue_place c q) [])) → map_list entries qs'' ≡ map_list (exchanged (Chunk a) (Chunk b)) s.queues
  queues_shifted qs'' o n e put =
      ap (map_list entries) put ∙ entries-put qs' (queue_place c q) (Chunk b) n o
      ∙ ap (λ t. slice_set t (queue_place c q) (insert same_entry (Chunk b) o (slice_index_or t (queue_place c q) []))) entries_left
      ∙ ap (λ k. slice_set (slice_set s.queues (queue_place c q) (without same_entry (Chunk a) (queue_of s c q))) (queue_place c q) (insert same_entry (Chunk b) k (slice_index_or (slice_set s.queues (queue_place c q) (without same_entry (Chunk a) (queue_of s c q))) (queue_place c q) []))) (before_is o e)
      ∙ fits.table
