-- An item goes to a chunk that the step holds: the move is possible, what it leaves, and that it keeps a store sound.
use Rattle.std.specs.Prelude.{ℕ, ◌≡◌, ◌+◌, ◌<◌, ◌≤◌, true, false, cond, List, [], ◌∷◌, Option, None, Some, is_some, length, slice_index_or, slice_set, zero, suc, refl, ◌⊎◌, map as map_list}
use Rattle.std.specs.List.{sum_by}
use Rattle.std.proofs.Common.{sym, ◌∙◌, ap, subst, arith, inl, inr}
use Rattle.std.proofs.lemmas.Bool.{cases_Bool, false≢true, true≢false}
use Rattle.std.proofs.lemmas.List.Sums.{sum_by-cons}
use Rattle.std.specs.FinMap as map
use Rattle.std.specs.Ordering.{eq_by_cmp, nat_cmp}
use Rattle.std.specs.Cmp.Lexicographic.{slice_cmp, nat_list_cmp_total}
use Rattle.rev_items.specs.Plain.{PlainItem}
use Rattle.rev_model.specs.Chunk.{same_chunk, same_entry}
use Rattle.rev_model.specs.Lists.{has, count}
use Rattle.rev_model.specs.State.{State, WellFormed, IsChunkOf, free_of, queue_of, queue_place, owner_of, item_at, find, stands, stands_in}
use Rattle.rev_model.specs.Move.{Shifts, Possible, Ready, moved, exchanged}
use Rattle.rev_model.specs.Move as move
use Rattle.rev_model.proofs.Undo.{tells_chunk, tells_entry, tied, tied_self, at_map, count-has, has-count, count_in_table, free_lacks, lacks-exchanged, apart_by_item, differ}
use Rattle.rev_model.proofs.Laws.{get_put}
use Rattle.rev_model.specs.Actor.{shifted, in_place}
use Rattle.rev_model.specs.Sound.{Stands, Loose}
use Rattle.rev_model.specs.declared.ChunkRef.{ChunkRef}
use Rattle.rev_model.specs.declared.Entry.{Entry}
use Rattle.rev_model.specs.declared.Entry.TheVariants.{Chunk, Mark}
use Rattle.rev_model.specs.declared.Queue.{Queue}
use Rattle.rev_edits.proofs.Rest.{Rest}

some_inj : {X : Type 0} (x y : X) → Some x ≡ Some y → x ≡ y
some_inj x y e = cc

none_some : {X : Type 0} (y : X) → None ≡ Some y → ⊥
none_some y e = cc

keys_exact : map.IsAntisymmetric (slice_cmp nat_cmp)
keys_exact = map.slice_cmp-IsAntisymmetric map.nat_cmp-IsAntisymmetric

-- ---- an entry takes the place of another

-- what is in the list after the exchange entered or was there
exchanged_from : (a b e : Entry) (es : List Entry) → has same_entry e (exchanged a b es) ≡ true → ((e ≡ b) × (has same_entry a es ≡ true)) ⊎ (has same_entry e es ≡ true)
exchanged_from a b e [] h = absurd (false≢true h)
exchanged_from a b e (d ∷ es) h = elim (cases_Bool (same_entry a d)) [
  | inl f ↦ elim (cases_Bool (same_entry e b)) [
    | inl g ↦ inl (tells_entry.exact e b g, rw f refl)
    | inr g ↦ elim (exchanged_from a b e es (rw (f, g) at h)) [
      | inl w ↦ inl (w.0, rw f refl)
      | inr w ↦ inr (more e d es w)
    ]
  ]
  | inr f ↦ elim (cases_Bool (same_entry e d)) [
    | inl g ↦ inr (rw g refl)
    | inr g ↦ elim (exchanged_from a b e es (rw (f, g) at h)) [
      | inl w ↦ inl (w.0, rw f w.1)
      | inr w ↦ inr (rw g w)
    ]
  ]
]
  where
    more : (e d : Entry) (es : List Entry) → has same_entry e es ≡ true → has same_entry e (d ∷ es) ≡ true
    more e d es w = elim (cases_Bool (same_entry e d)) [ inl g ↦ rw g refl | inr g ↦ rw g w ]

-- how often an entry stands there
exchanged_count : (a b e : Entry) (es : List Entry) → count same_entry e (exchanged a b es) + cond (same_entry e a) (count same_entry a es) 0 ≡ count same_entry e es + cond (same_entry e b) (count same_entry a es) 0
exchanged_count a b e [] = elim (cases_Bool (same_entry e a)) [
  | inl f ↦ rw f (elim (cases_Bool (same_entry e b)) [ inl g ↦ rw g refl | inr g ↦ rw g refl ])
  | inr f ↦ rw f (elim (cases_Bool (same_entry e b)) [ inl g ↦ rw g refl | inr g ↦ rw g refl ])
]
exchanged_count a b e (d ∷ es) =
    let more = exchanged_count a b e es in
    elim (cases_Bool (same_entry a d)) [
      | inl f ↦ rw (f, ← tells_entry.exact a d f) (elim (cases_Bool (same_entry e a)) [
        | inl g ↦ elim (cases_Bool (same_entry e b)) [
          | inl h ↦ let m = rw (g, h) at more in rw (g, h) (omega (arith, m))
          | inr h ↦ let m = rw (g, h) at more in rw (g, h) (omega (arith, m))
        ]
        | inr g ↦ elim (cases_Bool (same_entry e b)) [
          | inl h ↦ let m = rw (g, h) at more in rw (g, h) (omega (arith, m))
          | inr h ↦ let m = rw (g, h) at more in rw (g, h) (omega (arith, m))
        ]
      ])
      | inr f ↦ rw f (elim (cases_Bool (same_entry e a)) [
        | inl g ↦ elim (cases_Bool (same_entry e b)) [
          | inl h ↦ let m = rw (g, h) at more in rw (g, h) (omega (arith, m))
          | inr h ↦ let m = rw (g, h) at more in rw (g, h) (omega (arith, m))
        ]
        | inr g ↦ elim (cases_Bool (same_entry e b)) [
          | inl h ↦ let m = rw (g, h) at more in rw (g, h) (omega (arith, m))
          | inr h ↦ let m = rw (g, h) at more in rw (g, h) (omega (arith, m))
        ]
      ])
    ]

-- and in all lists of a table
exchanged_sum : (a b e : Entry) (ls : List (List Entry)) → sum_by (count same_entry e) (map_list (exchanged a b) ls) + cond (same_entry e a) (sum_by (count same_entry a) ls) 0 ≡ sum_by (count same_entry e) ls + cond (same_entry e b) (sum_by (count same_entry a) ls) 0
exchanged_sum a b e [] = elim (cases_Bool (same_entry e a)) [
  | inl f ↦ rw f (elim (cases_Bool (same_entry e b)) [ inl g ↦ rw g refl | inr g ↦ rw g refl ])
  | inr f ↦ rw f (elim (cases_Bool (same_entry e b)) [ inl g ↦ rw g refl | inr g ↦ rw g refl ])
]
exchanged_sum a b e (l ∷ ls) =
    let here = exchanged_count a b e l in
    let more = exchanged_sum a b e ls in
    let one = sum_by-cons (count same_entry e) (exchanged a b l) (map_list (exchanged a b) ls) in
    let two = sum_by-cons (count same_entry a) l ls in
    let three = sum_by-cons (count same_entry e) l ls in
    elim (cases_Bool (same_entry e a)) [
      | inl g ↦ elim (cases_Bool (same_entry e b)) [
        | inl h ↦ let m = rw (g, h) at more in let n = rw (g, h) at here in rw (g, h) (omega (arith, m, n, one, two, three))
        | inr h ↦ let m = rw (g, h) at more in let n = rw (g, h) at here in rw (g, h) (omega (arith, m, n, one, two, three))
      ]
      | inr g ↦ elim (cases_Bool (same_entry e b)) [
        | inl h ↦ let m = rw (g, h) at more in let n = rw (g, h) at here in rw (g, h) (omega (arith, m, n, one, two, three))
        | inr h ↦ let m = rw (g, h) at more in let n = rw (g, h) at here in rw (g, h) (omega (arith, m, n, one, two, three))
      ]
    ]

same_length : (a b : Entry) (ls : List (List Entry)) → length (map_list (exchanged a b) ls) ≡ length ls
same_length a b [] = refl
same_length a b (l ∷ ls) = let more : length (map_list (exchanged a b) ls) ≡ length ls = same_length a b ls in omega (arith, more)

-- what the chunks hold after the item of a went to b
shifted_item : (a b : ChunkRef) (s : State) (y : ChunkRef) → item_at (move.shifted a b s) y ≡ cond (same_chunk y b) (item_at s a) (cond (same_chunk y a) None (item_at s y))
shifted_item a b s y = get_put (record s { content = move.put_at s.content a None }) b (item_at s a) y ∙ ap (cond (same_chunk y b) (item_at s a)) (get_put s a None y)

in_place_is : (x y : Entry) (es : List Entry) → exchanged x y es ≡ in_place x y es
in_place_is x y [] = refl
in_place_is x y (e ∷ es) = ap (λ l. cond (same_entry x e) y e ∷ l) (in_place_is x y es)

-- a list without the entry stays as it is
exchanged_none : (a b : Entry) (l : List Entry) → has same_entry a l ≡ false → exchanged a b l ≡ l
exchanged_none a b [] h = refl
exchanged_none a b (e ∷ es) h = elim (cases_Bool (same_entry a e)) [
  | inl f ↦ absurd (true≢false (rw f at h))
  | inr f ↦ rw f (ap (λ l. e ∷ l) (exchanged_none a b es (rw f at h)))
]

no_exchange : (a b : Entry) (ls : List (List Entry)) → sum_by (count same_entry a) ls ≡ 0 → map_list (exchanged a b) ls ≡ ls
no_exchange a b [] h = refl
no_exchange a b (l ∷ ls) h =
    let sum = sum_by-cons (count same_entry a) l ls in
    let here : has same_entry a l ≡ false = has-count same_entry tells_entry a l (omega (arith, h, sum)) in
    let more : sum_by (count same_entry a) ls ≡ 0 = omega (arith, h, sum) in
    λ j. exchanged_none a b l here j ∷ no_exchange a b ls more j

-- an entry that stands once is exchanged in that list alone
one_exchange : (a b : Entry) (ls : List (List Entry)) (n : ℕ) → n < length ls → has same_entry a (slice_index_or ls n []) ≡ true → sum_by (count same_entry a) ls ≡ 1 → map_list (exchanged a b) ls ≡ slice_set ls n (in_place a b (slice_index_or ls n []))
one_exchange a b [] n lt h one = absurd (omega (arith, lt))
one_exchange a b (l ∷ ls) zero lt h one =
    let none : sum_by (count same_entry a) ls ≡ 0 = omega (arith, one, sum_by-cons (count same_entry a) l ls, count-has same_entry tells_entry a l h) in
    λ j. in_place_is a b l j ∷ no_exchange a b ls none j
one_exchange a b (l ∷ ls) (suc n) lt h one =
    let some : 1 ≤ sum_by (count same_entry a) ls = omega (arith, count-has same_entry tells_entry a (slice_index_or ls n []) h, count_in_table same_entry tells_entry a ls n) in
    let sum = sum_by-cons (count same_entry a) l ls in
    let here : has same_entry a l ≡ false = has-count same_entry tells_entry a l (omega (arith, one, some, sum)) in
    let more : sum_by (count same_entry a) ls ≡ 1 = omega (arith, one, some, sum) in
    λ j. exchanged_none a b l here j ∷ one_exchange a b ls n (omega (arith, lt)) h more j

-- ---- the item i of a, which stands in queue q of class c, goes to b
module _ (s : State) (well : WellFormed s) (c : ℕ) (q : Queue) (a b : ChunkRef) (i : PlainItem) (at : Stands s c q a i) (to : Loose s c b) where
  differs : a ≡ b → ⊥
  differs = apart_by_item s a b i at.item to.empty

  from_chunk : IsChunkOf s.fixed s.owner c a
  from_chunk = well.lists.queued_of_class c q a at.there

  pub shift_ready : Ready (Shifts a b) s
  shift_ready = (i, at.item, at.key, to.empty, to.nowhere, (c, q, at.there))

  -- what stands in a queue now
  stood : (p : ℕ) (y : ChunkRef) → has same_entry (Chunk y) (slice_index_or (move.shifted a b s).queues p []) ≡ true → ((y ≡ b) × (has same_entry (Chunk a) (slice_index_or s.queues p []) ≡ true)) ⊎ (has same_entry (Chunk y) (slice_index_or s.queues p []) ≡ true)
  stood p y h = elim (exchanged_from (Chunk a) (Chunk b) (Chunk y) (slice_index_or s.queues p []) (ap (has same_entry (Chunk y)) (sym (at_map (exchanged (Chunk a) (Chunk b)) refl s.queues p)) ∙ h)) [
    | inl w ↦ inl (chunk_inj y b w.0, w.1)
    | inr w ↦ inr w
  ]
    where
      chunk_inj : (x y : ChunkRef) → Chunk x ≡ Chunk y → x ≡ y
      chunk_inj x y e = cc

  -- the chunk that the item left stands in none
  left_all : (p : ℕ) → has same_entry (Chunk a) (slice_index_or (move.shifted a b s).queues p []) ≡ false
  left_all p = ap (has same_entry (Chunk a)) (at_map (exchanged (Chunk a) (Chunk b)) refl s.queues p) ∙ lacks-exchanged (Chunk a) (Chunk b) (slice_index_or s.queues p []) (differ a b differs)

  -- in how many places a chunk stands
  one_place : sum_by (count same_entry (Chunk a)) s.queues ≡ 1
  one_place = omega (arith, well.lists.once a, count-has same_entry tells_entry (Chunk a) (queue_of s c q) at.there, count_in_table same_entry tells_entry (Chunk a) s.queues (queue_place c q))

  -- what the move leaves is what the step's rule says
  pub carried_is : move.shifted a b s ≡ shifted c q a b i s
  carried_is = λ j. record s {
    queues = one_exchange (Chunk a) (Chunk b) s.queues (queue_place c q) at.place at.there one_place j;
    content = ap (move.put_at (move.put_at s.content a None) b) at.item j;
    index = ap (λ o. move.rebound b o s.index) at.item j;
  }

  queues_count : (y : ChunkRef) → sum_by (count same_entry (Chunk y)) (move.shifted a b s).queues + cond (same_chunk y a) 1 0 ≡ sum_by (count same_entry (Chunk y)) s.queues + cond (same_chunk y b) 1 0
  queues_count y = rw one_place at (exchanged_sum (Chunk a) (Chunk b) (Chunk y) s.queues)

  no_more_marks : (p : ℕ) → count same_entry Mark (slice_index_or (move.shifted a b s).queues p []) ≤ 1
  no_more_marks p =
      let same : count same_entry Mark (slice_index_or (move.shifted a b s).queues p []) ≡ count same_entry Mark (exchanged (Chunk a) (Chunk b) (slice_index_or s.queues p [])) = ap (count same_entry Mark) (at_map (exchanged (Chunk a) (Chunk b)) refl s.queues p) in
      let kept : count same_entry Mark (exchanged (Chunk a) (Chunk b) (slice_index_or s.queues p [])) + 0 ≡ count same_entry Mark (slice_index_or s.queues p []) + 0 = exchanged_count (Chunk a) (Chunk b) Mark (slice_index_or s.queues p []) in
      omega (arith, same, kept, well.lists.one_mark p)

  few_places : (y : ChunkRef) → stands_in s.free (move.shifted a b s).queues y ≤ 1
  few_places y = elim (cases_Bool (same_chunk y b)) [
    | inl e ↦
        let none : stands s y ≡ 0 = ap (stands s) (tells_chunk.exact y b e) ∙ to.nowhere in
        let n : sum_by (count same_entry (Chunk y)) (move.shifted a b s).queues + cond (same_chunk y a) 1 0 ≡ sum_by (count same_entry (Chunk y)) s.queues + 1 = rw e at (queues_count y) in
        omega (arith, none, n)
    | inr e ↦
        let n : sum_by (count same_entry (Chunk y)) (move.shifted a b s).queues + cond (same_chunk y a) 1 0 ≡ sum_by (count same_entry (Chunk y)) s.queues + 0 = rw e at (queues_count y) in
        omega (arith, well.lists.once y, n)
  ]

  -- what the chunks hold
  item_there : item_at (move.shifted a b s) b ≡ Some i
  item_there = shifted_item a b s b ∙ rw (tells_chunk.self b) at.item

  item_of_other : (y : ChunkRef) → same_chunk y b ≡ false → same_chunk y a ≡ false → item_at (move.shifted a b s) y ≡ item_at s y
  item_of_other y nb na = shifted_item a b s y ∙ rw (nb, na) refl

  -- an item is the one that went, or was there
  item_was : (y : ChunkRef) (j : PlainItem) → item_at (move.shifted a b s) y ≡ Some j → ((y ≡ b) × (i ≡ j)) ⊎ ((item_at s y ≡ Some j) × (same_chunk y b ≡ false) × (same_chunk y a ≡ false))
  item_was y j g = elim (cases_Bool (same_chunk y b)) [
    | inl e ↦
        let is : y ≡ b = tells_chunk.exact y b e in
        inl (is, some_inj i j (sym item_there ∙ ap (item_at (move.shifted a b s)) (sym is) ∙ g))
    | inr nb ↦ elim (cases_Bool (same_chunk y a)) [
      | inl e ↦ absurd (none_some j (sym (shifted_item a b s y ∙ rw (nb, e) refl) ∙ g))
      | inr na ↦ inr (sym (item_of_other y nb na) ∙ g, nb, na)
    ]
  ]

  queued_item : (p : ℕ) (y : ChunkRef) → has same_entry (Chunk y) (slice_index_or (move.shifted a b s).queues p []) ≡ true → is_some (item_at (move.shifted a b s) y) ≡ true
  queued_item p y h = elim (cases_Bool (same_chunk y b)) [
    | inl e ↦ ap (λ x. is_some (item_at (move.shifted a b s) x)) (tells_chunk.exact y b e) ∙ ap is_some item_there
    | inr nb ↦ elim (cases_Bool (same_chunk y a)) [
      | inl e ↦ absurd (true≢false (sym h ∙ ap (λ x. has same_entry (Chunk x) (slice_index_or (move.shifted a b s).queues p [])) (tells_chunk.exact y a e) ∙ left_all p))
      | inr na ↦ ap is_some (item_of_other y nb na) ∙ elim (stood p y h) [
        | inl w ↦ absurd (true≢false (sym (ap (λ x. same_chunk x b) w.0 ∙ tells_chunk.self b) ∙ nb))
        | inr w ↦ well.filled.queued_items p y w
      ]
    ]
  ]

  some_item : (o : Option PlainItem) → is_some o ≡ true → (j : PlainItem) × (o ≡ Some j)
  some_item None h = absurd (false≢true h)
  some_item (Some j) h = (j, refl)

  chunk_with_item : (y : ChunkRef) → is_some (item_at (move.shifted a b s) y) ≡ true → IsChunkOf s.fixed s.owner (owner_of s y.page) y × ((k : ℕ) → has same_chunk y (free_of s k) ≡ false)
  chunk_with_item y h =
      let w = some_item (item_at (move.shifted a b s) y) h in
      elim (item_was y w.0 w.1) [
        | inl e ↦ subst (λ x. IsChunkOf s.fixed s.owner (owner_of s x.page) x × ((k : ℕ) → has same_chunk x (free_of s k) ≡ false)) (sym e.0) (subst (λ k. IsChunkOf s.fixed s.owner k b) (sym to.chunk.owned) to.chunk, λ k. free_lacks s k b to.nowhere)
        | inr e ↦ well.filled.items y (ap is_some e.0)
      ]

  -- the index
  index_is : (move.shifted a b s).index ≡ map.insert s.index i.key b
  index_is = ap (λ o. move.rebound b o s.index) at.item

  find_is : (k : List ℕ) → find (move.shifted a b s) k ≡ cond (eq_by_cmp (slice_cmp nat_cmp) k i.key) (Some b) (find s k)
  find_is k = ap (λ m. map.get m k) index_is ∙ map.get-insert nat_list_cmp_total s.index i.key b k

  indexed_item : (k : List ℕ) (y : ChunkRef) → find (move.shifted a b s) k ≡ Some y → (j : PlainItem) × (item_at (move.shifted a b s) y ≡ Some j) × (j.key ≡ k)
  indexed_item k y h = elim (cases_Bool (eq_by_cmp (slice_cmp nat_cmp) k i.key)) [
    | inl e ↦
        let is : b ≡ y = some_inj b y (sym (find_is k ∙ rw e refl) ∙ h) in
        (i, ap (item_at (move.shifted a b s)) (sym is) ∙ item_there, sym (tied nat_list_cmp_total keys_exact k i.key e))
    | inr e ↦
        let w = well.index.indexed k y (sym (find_is k ∙ rw e refl) ∙ h) in
        let nb : same_chunk y b ≡ false = elim (cases_Bool (same_chunk y b)) [
          | inl f ↦ absurd (none_some w.0 (sym to.empty ∙ ap (item_at s) (sym (tells_chunk.exact y b f)) ∙ w.1))
          | inr f ↦ f
        ] in
        let na : same_chunk y a ≡ false = elim (cases_Bool (same_chunk y a)) [
          | inl f ↦
              let same : i ≡ w.0 = some_inj i w.0 (sym at.item ∙ ap (item_at s) (sym (tells_chunk.exact y a f)) ∙ w.1) in
              let key : i.key ≡ k = ap (λ (j : PlainItem). j.key) same ∙ w.2 in
              absurd (true≢false (sym (ap (λ l. eq_by_cmp (slice_cmp nat_cmp) l i.key) (sym key) ∙ tied_self nat_list_cmp_total keys_exact i.key) ∙ e))
          | inr f ↦ f
        ] in
        (w.0, item_of_other y nb na ∙ w.1, w.2)
  ]

  pub keeps-shift : Possible (Shifts a b) s
  keeps-shift = record {
    ready = shift_ready;
    after = record {
      lists = record {
        free_length = well.lists.free_length;
        queues_length = same_length (Chunk a) (Chunk b) s.queues ∙ well.lists.queues_length;
        free_of_class = well.lists.free_of_class;
        queued_of_class = λ d p y h. elim (stood (queue_place d p) y h) [
          | inl w ↦
              let is : c ≡ d = sym from_chunk.owned ∙ (well.lists.queued_of_class d p a w.1).owned in
              subst (IsChunkOf s.fixed s.owner d) (sym w.0) (subst (λ k. IsChunkOf s.fixed s.owner k b) is to.chunk)
          | inr w ↦ well.lists.queued_of_class d p y w
        ];
        once = λ y. few_places y;
        one_mark = λ p. no_more_marks p;
      };
      filled = record { queued_items = λ p y h. queued_item p y h; items = λ y h. chunk_with_item y h };
      index = record { indexed = λ k y h. indexed_item k y h };
      owned = well.owned;
      bump = well.bump;
      counters = well.counters;
    };
  }

  -- the chunk that the item left is held now
  pub rest-carried : Rest (Some b) s → Rest (Some a) (move.shifted a b s)
  rest-carried rest = record {
    placed = record { once = λ y k. omega (arith, rest.placed.once y k, queues_count y) };
    filed = record {
      queued = λ y j g. elim (item_was y j g) [
        | inl w ↦
            let apart : same_chunk b a ≡ false = differ b a (λ e. differs (sym e)) in
            let n : sum_by (count same_entry (Chunk b)) (move.shifted a b s).queues + 0 ≡ sum_by (count same_entry (Chunk b)) s.queues + 1 = rw (apart, tells_chunk.self b) at (queues_count b) in
            subst (λ x. sum_by (count same_entry (Chunk x)) (move.shifted a b s).queues ≡ 1) (sym w.0) (omega (arith, n, to.nowhere))
        | inr w ↦
            let n : sum_by (count same_entry (Chunk y)) (move.shifted a b s).queues + 0 ≡ sum_by (count same_entry (Chunk y)) s.queues + 0 = rw (w.1, w.2) at (queues_count y) in
            omega (arith, n, rest.filed.queued y j w.0)
      ];
      keyed = λ y j g. elim (item_was y j g) [
        | inl w ↦ find_is j.key ∙ rw (ap (λ (p : PlainItem). eq_by_cmp (slice_cmp nat_cmp) p.key i.key) (sym w.1) ∙ tied_self nat_list_cmp_total keys_exact i.key) (ap Some (sym w.0))
        | inr w ↦
            let there = rest.filed.keyed y j w.0 in
            find_is j.key ∙ elim (cases_Bool (eq_by_cmp (slice_cmp nat_cmp) j.key i.key)) as (λ _. cond (eq_by_cmp (slice_cmp nat_cmp) j.key i.key) (Some b) (find s j.key) ≡ Some y) [
              | inl e ↦
                  let is : y ≡ a = some_inj y a (sym there ∙ ap (find s) (tied nat_list_cmp_total keys_exact j.key i.key e) ∙ at.key) in
                  absurd (true≢false (sym (ap (λ x. same_chunk x a) is ∙ tells_chunk.self a) ∙ w.2))
              | inr e ↦ rw e there
            ]
      ];
      class = λ y j g. elim (item_was y j g) [
        | inl w ↦ rw (w.0, ← w.1) (rest.filed.class a i at.item ∙ ap Some (from_chunk.owned ∙ sym to.chunk.owned))
        | inr w ↦ rest.filed.class y j w.0
      ];
    };
    kept = rest.kept;
  }
