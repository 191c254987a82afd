-- What exchanges of items and of whole pages do, at the value that callers see.
use Rattle.std.proofs.Common.{◌≡◌, ◌≢◌, ℕ, suc, zero, ◌<◌, ◌≤◌, true, Option, Some, None, IsSome, List, [], ◌∷◌, ◌^◌, length, get_or, set, slice_get, ◌⊎◌, inl, inr, refl, sym, ◌∙◌, ap, subst, arith, map, option_map, replicate}
use Rattle.std.proofs.lemmas.Bool.{cases_Bool, cases_eq, cases_lt}
use Rattle.std.proofs.lemmas.List.{get_or-set_same, get_or-set_other, length-map, map-set, length-set, set_past}
use Rattle.std.specs.FinMap as fin
use Rattle.std.proofs.lemmas.Nat.{pow_pos, pow_below}
use Rattle.std.specs.Ordering.{nat_cmp}
use Rattle.std.specs.Cmp.Lexicographic.{slice_cmp}
use Rattle.rev_links.specs.declared.places.RingPlace.TheVariants.{End, At}
use Rattle.rev_links.specs.Rings.{Path, In}
use Rattle.rev_links.proofs.Rings.{path_same}
use Rattle.rev_items.specs.Plain.{PlainItem}
use Rattle.rev_model.specs.Chunk.{same_chunk, chunk_cmp, HasSlot}
use Rattle.rev_model.proofs.Chunks.{chunk_cmp_exact, chunk_cmp_total}
use Rattle.rev_model.specs.Move.{put_at, touched}
use Rattle.rev_model.specs.declared.Touched.{Touched}
use Rattle.rev_model.specs.declared.ChunkRef.{ChunkRef}
use Rattle.rev_index.specs.Made.{at}
use Rattle.rev_index.proofs.Made.{get-made, made-set}
use Rattle.rev_index.specs.declared.chains.Bucket.{Bucket}
use Rattle.rev_links.specs.Grids.{cell_at, with_cell, away}
use Rattle.rev_index.specs.Chains.{ChainLink, link_at, next_in, previous_in, chain, bucket_of}
use Rattle.rev_index.specs.Index.{PlainIndex, index_of, is_named, find_in, IsHome, IsChained, AllNone, AreFree, AreEmpty, empty_index}
use Rattle.rev_links.proofs.Grids.{some_within, some_page, cell_from_size, size_of_page, sizes_written, cell_other, cell_written, sizes_away, length_away}
use Rattle.rev_index.proofs.Steps.{same_chunk_parts, Bounded, trail_is}
use Rattle.rev_index.proofs.Maps.{same_key, key_self, find_same, found}
use Rattle.rev_index.proofs.Kept.{tells, at_cell, some_cell, bucket_below, find_bound, same_index, content_is, item_is, slots_are, find_is}
use Rattle.rev_index.proofs.Moves.{home_item}

named_by : (k : List ℕ) (o : Option PlainItem) (i j : PlainItem) → o ≡ Some i → i.key ≡ j.key → is_named k o ≡ is_named k (Some j)
named_by k o i j u e = ap (is_named k) u ∙ ap (λ q. is_named k (Some (record j { key = q }))) e

chunk_cases : (y x : ChunkRef) → (y ≡ x) ⊎ (y ≢ x)
chunk_cases y x = elim (cases_Bool (same_chunk y x)) [ inl t ↦ inl (tells.same y x t) | inr t ↦ inr (tells.apart y x t) ]

-- the same table but for one chunk
at_other : (items : List (List (Option PlainItem))) (x y : ChunkRef) (o : Option PlainItem) → y ≢ x → at (with_cell items x.page x.slot o) y ≡ at items y
at_other items x y o n = go (cell_at (with_cell items x.page x.slot o) y.page y.slot) (cell_at items y.page y.slot) refl refl (cell_other items x.page x.slot y.page y.slot o (λ a b. n (same_chunk_parts y x a b)))
  where
    past : {X : Type 0} (xs : List X) (s : ℕ) (d : X) → slice_get xs s ≡ None → get_or xs s d ≡ d
    past [] s d e = refl
    past (z ∷ zs) zero d e = cc
    past (z ∷ zs) (suc s) d e = past zs s d e

    go : (a b : Option (Option PlainItem)) → cell_at (with_cell items x.page x.slot o) y.page y.slot ≡ a → cell_at items y.page y.slot ≡ b → cell_at (with_cell items x.page x.slot o) y.page y.slot ≡ cell_at items y.page y.slot
        → at (with_cell items x.page x.slot o) y ≡ at items y
    go a (Some b) p q e = at_cell (with_cell items x.page x.slot o) y b (e ∙ q) ∙ sym (at_cell items y b q)
    go a None p q e = past (get_or (with_cell items x.page x.slot o) y.page []) y.slot None (e ∙ q) ∙ sym (past (get_or items y.page []) y.slot None q)

module _ (ends : List ChainLink) (links : List (List ChainLink)) (items : List (List (Option PlainItem))) (h : IsChained ends links items) (v : PlainIndex) (e : index_of ends links items ≡ v) where
  pub slot_there : (x : ChunkRef) → HasSlot v.slots x → IsSome (cell_at items x.page x.slot)
  slot_there x s = cell_from_size items x.page x.slot (subst (λ ns. x.slot < get_or ns x.page 0) (sym (slots_are ends links items h v e)) s.1)

  pub has_slot : (x : ChunkRef) (i : PlainItem) → fin.get v.content x ≡ Some i → IsSome (cell_at items x.page x.slot)
  has_slot x i t = some_cell items x (subst IsSome (sym (sym (item_is ends links items h v e x) ∙ t)) refl)

  -- ---- an item exchanged
  module _ (x : ChunkRef) (o : Option PlainItem) (there : IsSome (cell_at items x.page x.slot)) (keeps : (k : List ℕ) → fin.get v.keys k ≡ Some x → (i : PlainItem) × (o ≡ Some i) × (i.key ≡ k)) where
    abbrev items' : List (List (Option PlainItem))
    items' = with_cell items x.page x.slot o

    at_same : at items' x ≡ o
    at_same = at_cell items' x o (cell_written items x.page x.slot o there)

    -- a member that is exchanged keeps its key
    kept : (b : ℕ) → b < length ends → In x (chain ends links b) → (j : PlainItem) × (i : PlainItem) × (at items x ≡ Some j) × (bucket_of (length ends) j.key ≡ b) × (o ≡ Some i) × (i.key ≡ j.key)
    kept b l m =
        let r = home_item (length ends) b (at items x) (h.home b x l m) in
        let j : PlainItem = r.0 in
        let u : at items x ≡ Some j = r.1 in
        let w : bucket_of (length ends) j.key ≡ b = r.2 in
        let t : is_named j.key (at items x) ≡ true = ap (is_named j.key) u ∙ key_self j.key in
        let f : find_in (at items) j.key (chain ends links b) None ≡ Some x = find_bound ends links items h b x j.key l m t in
        let g : fin.get v.keys j.key ≡ Some x = sym (find_is ends links items h v e j.key) ∙ (ap (λ c. find_in (at items) j.key (chain ends links c) None) w ∙ f) in
        let n = keeps j.key g in
        (j, n.0, u, w, n.1, n.2)

    named_same : (b : ℕ) (y : ChunkRef) (k : List ℕ) → b < length ends → In y (chain ends links b) → is_named k (at items' y) ≡ is_named k (at items y)
    named_same b y k l m = elim (chunk_cases y x) [
      | inl u ↦
          let r = kept b l (subst (λ z. In z (chain ends links b)) u m) in
          let i : PlainItem = r.1 in
          let j : PlainItem = r.0 in
          ap (λ z. is_named k (at items' z)) u ∙ (named_by k (at items' x) i j (at_same ∙ r.4) r.5 ∙ (sym (ap (is_named k) r.2) ∙ ap (λ z. is_named k (at items z)) (sym u)))
      | inr n ↦ ap (is_named k) (at_other items x y o n)
    ]

    home_same : (b : ℕ) (y : ChunkRef) → b < length ends → In y (chain ends links b) → IsHome (length ends) b (at items' y)
    home_same b y l m = elim (chunk_cases y x) [
      | inl u ↦
          let r = kept b l (subst (λ z. In z (chain ends links b)) u m) in
          let i : PlainItem = r.1 in
          subst (λ z. IsHome (length ends) b (at items' z)) (sym u)
          (subst (IsHome (length ends) b) (sym (at_same ∙ r.4)) (ap (bucket_of (length ends)) r.5 ∙ r.3))
      | inr n ↦ subst (IsHome (length ends) b) (sym (at_other items x y o n)) (h.home b y l m)
    ]

    pub fill_chained : IsChained ends links items'
    fill_chained = record {
      ring = h.ring;
      home = home_same;
      alone = λ b y z k l m n t u. h.alone b y z k l m n (sym (named_same b y k l m) ∙ t) (sym (named_same b z k l n) ∙ u);
      some = h.some;
      few = h.few;
      same_sizes = h.same_sizes ∙ sym (sizes_written items x.page x.slot o);
      pages = h.pages;
      slots_below = h.slots_below;
    }

    pub fill_value : index_of ends links items' ≡ record v { content = put_at v.content x o }
    fill_value =
        let w : PlainIndex = record v { content = put_at v.content x o } in
        same_index ends links items' fill_chained w
        (made-set items x o (some_page items x.page x.slot there) (some_within (get_or items x.page []) x.slot there) ∙ ap (λ m. put_at m x o) (content_is ends links items h v e))
        (λ k.
        find_same (at items) (at items') k (chain ends links (bucket_of (length ends) k)) None (λ y m. named_same (bucket_of (length ends) k) y k (bucket_below (length ends) k h.some) m)
        ∙ find_is ends links items h v e k)
        (sizes_written items x.page x.slot o ∙ slots_are ends links items h v e)

-- ---- an item touched
module _ (ends : List ChainLink) (links : List (List ChainLink)) (items : List (List (Option PlainItem))) (h : IsChained ends links items) (v : PlainIndex) (e : index_of ends links items ≡ v)
    (x : ChunkRef) (i : PlainItem) (has : fin.get v.content x ≡ Some i) where
  touch_at : at items x ≡ Some i
  touch_at = sym (item_is ends links items h v e x) ∙ has

  pub touch_cell : cell_at items x.page x.slot ≡ Some (Some i)
  touch_cell = go (cell_at items x.page x.slot) refl (has_slot ends links items h v e x i has)
    where
      go : (o : Option (Option PlainItem)) → cell_at items x.page x.slot ≡ o → IsSome o → cell_at items x.page x.slot ≡ Some (Some i)
      go None c s = cc
      go (Some p) c s = c ∙ ap Some (sym (at_cell items x p c) ∙ touch_at)

  module _ (t : Touched) (items₁ : List (List (Option PlainItem))) (a : items₁ ≡ with_cell items x.page x.slot (Some (touched t i))) where
    keeps : (k : List ℕ) → fin.get v.keys k ≡ Some x → (n : PlainItem) × (Some (touched t i) ≡ Some n) × (n.key ≡ k)
    keeps k b =
        let f = found (at items) k (chain ends links (bucket_of (length ends) k)) x (find_is ends links items h v e k ∙ b) in
        (touched t i, refl, sym (same_key k i.key (sym (ap (is_named k) touch_at) ∙ f.1)))

    pub touch_chained : IsChained ends links items₁
    touch_chained = subst (IsChained ends links) (sym a) (fill_chained ends links items h v e x (Some (touched t i)) (has_slot ends links items h v e x i has) keeps)

    pub touch_value : index_of ends links items₁ ≡ record v { content = put_at v.content x (option_map (touched t) (fin.get v.content x)) }
    touch_value =
        ap (index_of ends links) a
        ∙ (fill_value ends links items h v e x (Some (touched t i)) (has_slot ends links items h v e x i has) keeps
        ∙ ap (λ q. record v { content = put_at v.content x q }) (sym (ap (option_map (touched t)) has)))

-- ---- the slots of a page exchanged, where neither the old nor the new ones have items
at_past : (items : List (List (Option PlainItem))) (y : ChunkRef) → length (get_or items y.page []) ≡ 0 → at items y ≡ None
at_past items y z = go (get_or items y.page []) y.slot z
  where
    go : (xs : List (Option PlainItem)) (s : ℕ) → length xs ≡ 0 → get_or xs s None ≡ None
    go [] s k = refl
    go (o ∷ os) s k = absurd (omega (arith, k))

module _ (ends : List ChainLink) (links : List (List ChainLink)) (items : List (List (Option PlainItem))) (h : IsChained ends links items) (v : PlainIndex) (e : index_of ends links items ≡ v) (page : ℕ) where
  pub lay_clear : get_or v.slots page 0 ≡ 0 → (y : ChunkRef) → y.page ≡ page → at items y ≡ None
  lay_clear z y u =
      let a : get_or (map length items) page 0 ≡ 0 = subst (λ ns. get_or ns page 0 ≡ 0) (sym (slots_are ends links items h v e)) z in
      at_past items y (subst (λ p. length (get_or items p []) ≡ 0) (sym u) (let b = size_of_page items page in omega arith))

  pub lift_clear : ((y : ChunkRef) → y.page ≡ page → fin.get v.content y ≡ None) → (y : ChunkRef) → y.page ≡ page → at items y ≡ None
  lift_clear none y u = sym (item_is ends links items h v e y) ∙ none y u

  pub page_items : 0 < get_or v.slots page 0 → 0 < length (get_or items page [])
  page_items l =
      let a : get_or (map length items) page 0 ≡ get_or v.slots page 0 = ap (λ ns. get_or ns page 0) (slots_are ends links items h v e) in
      let b = size_of_page items page in omega arith

  pub page_same : length (get_or links page []) ≡ length (get_or items page [])
  page_same = sym (size_of_page links page) ∙ (ap (λ ns. get_or ns page 0) h.same_sizes ∙ size_of_page items page)

  pub page_few : length (get_or items page []) ≤ 65536
  page_few = let a = h.slots_below page in let b = size_of_page links page in let c = page_same in omega arith

  pub page_free : ((y : ChunkRef) → y.page ≡ page → at items y ≡ None) → AllNone (get_or items page [])
  page_free clear s = clear (record { page = page; slot = s }) refl

  pub page_count : length (get_or items page []) ≡ get_or v.slots page 0
  page_count = sym (size_of_page items page) ∙ ap (λ ns. get_or ns page 0) (slots_are ends links items h v e)

  pub page_table : page < length v.slots → (page < length items) × (page < length links)
  page_table l =
      let a : length (map length items) ≡ length v.slots = ap length (slots_are ends links items h v e) in
      let b = length-map items length in
      let c : length (map length links) ≡ length (map length items) = ap length h.same_sizes in
      let d = length-map links length in
      (omega arith, omega arith)

  module _ (is : List (Option PlainItem)) (ls : List ChainLink) (free : AreFree is ls) (clear : (y : ChunkRef) → y.page ≡ page → at items y ≡ None) where
    abbrev items'' : List (List (Option PlainItem))
    items'' = set items page is

    abbrev links'' : List (List ChainLink)
    links'' = set links page ls

    at_all : (y : ChunkRef) → at items'' y ≡ at items y
    at_all y = elim (cases_eq y.page page) [
      | inl u ↦ elim (cases_lt page (length items)) [
        | inl l ↦ (ap (λ p. get_or (get_or items'' p []) y.slot None) u ∙ (ap (λ xs. get_or xs y.slot None) (get_or-set_same items page is [] l) ∙ (free.none y.slot ∙ sym (clear y u))))
        | inr l ↦ ap (λ g. at g y) (set_past items page is l)
      ]
      | inr n ↦ ap (λ xs. get_or xs y.slot None) (get_or-set_other items page y.page is [] n)
    ]

    apart : (b : ℕ) (x : ChunkRef) → b < length ends → In x (chain ends links b) → x.page ≢ page
    apart b x l m u = subst (IsHome (length ends) b) (clear x u) (h.home b x l m)

    link_same : (x : ChunkRef) → x.page ≢ page → link_at ends links'' (At x) ≡ link_at ends links (At x)
    link_same x n = ap (λ xs. slice_get xs x.slot) (get_or-set_other links page x.page ls [] n)

    sizes'' : map length links'' ≡ map length items''
    sizes'' = map-set length links page ls ∙ (ap (set (map length links) page) free.same ∙ (ap (λ ns. set ns page (length is)) h.same_sizes ∙ sym (map-set length items page is)))

    bounded'' : Bounded links''
    bounded'' =
        let p = h.pages in
        let l = length-set links page ls in
        let f = free.few in
        let s = free.same in
        record {
          pages = omega arith;
          slots_below = λ q. subst (λ ns. get_or ns q 0 ≤ 65536) (sym (map-set length links page ls))
              (elim (cases_eq q page) [
                | inl u ↦ (elim (cases_lt page (length (map length links))) [
                  | inl k ↦ subst (λ z. get_or (set (map length links) page (length ls)) z 0 ≤ 65536) (sym u) (rw (get_or-set_same (map length links) page (length ls) 0 k) (omega arith))
                  | inr k ↦ rw (set_past (map length links) page (length ls) k) (h.slots_below q)
                ])
                | inr n ↦ rw (get_or-set_other (map length links) page q (length ls) 0 n) (h.slots_below q)
              ]);
        }

    path'' : (b : Bucket) → b.number < length ends → Path (next_in ends links'') (previous_in ends links'') (End b) (chain ends links b.number) (End b)
    path'' b l =
        path_same (next_in ends links) (previous_in ends links) (next_in ends links'') (previous_in ends links'') (End b) (chain ends links b.number) (End b) refl
        (λ x m. let q = link_same x (apart b.number x l m) in (ap (option_map (λ (k : ChainLink). k.next)) q, ap (option_map (λ (k : ChainLink). k.previous)) q)) refl (h.ring b l)

    chain'' : (b : ℕ) → b < length ends → chain ends links'' b ≡ chain ends links b
    chain'' b l = let c : Bucket = record { number = b } in trail_is ends links'' bounded'' (End c) (chain ends links b) c (path'' c l)

    pub exchange_chained : IsChained ends links'' items''
    exchange_chained = record {
      ring = λ b l. subst (λ xs. Path (next_in ends links'') (previous_in ends links'') (End b) xs (End b)) (sym (chain'' b.number l)) (path'' b l);
      home = λ b x l m. subst (IsHome (length ends) b) (sym (at_all x)) (h.home b x l (subst (In x) (chain'' b l) m));
      alone = λ b x y k l m n t u. h.alone b x y k l (subst (In x) (chain'' b l) m) (subst (In y) (chain'' b l) n) (ap (is_named k) (sym (at_all x)) ∙ t) (ap (is_named k) (sym (at_all y)) ∙ u);
      some = h.some;
      few = h.few;
      same_sizes = sizes'';
      pages = bounded''.pages;
      slots_below = bounded''.slots_below;
    }

    pub exchange_value : (n : ℕ) → length is ≡ n → index_of ends links'' items'' ≡ record v { slots = set v.slots page n }
    exchange_value n c =
        let w : PlainIndex = record v { slots = set v.slots page n } in
        same_index ends links'' items'' exchange_chained w
        (fin.same_map chunk_cmp_total chunk_cmp_exact _ _ (λ q. get-made items'' q ∙ (at_all q ∙ sym (get-made items q))) ∙ content_is ends links items h v e)
        (λ k.
        let b = bucket_of (length ends) k in
        ap (λ xs. find_in (at items'') k xs None) (chain'' (bucket_of (length ends) k) (bucket_below (length ends) k h.some))
        ∙ (find_same (at items) (at items'') k (chain ends links (bucket_of (length ends) k)) None (λ y m. ap (is_named k) (at_all y))
        ∙ find_is ends links items h v e k))
        (map-set length items page is ∙ (ap (set (map length items) page) c ∙ ap (λ ns. set ns page n) (slots_are ends links items h v e)))

-- ---- the empty index
at_away : (n : ℕ) (y : ChunkRef) → at (away n) y ≡ None
at_away n y = at_past (away n) y (go n y.page)
  where
    go : (m p : ℕ) → length (get_or (away {X = Option PlainItem} m) p []) ≡ 0
    go zero p = refl
    go (suc m) zero = refl
    go (suc m) (suc p) = go m p

below_power : (k : ℕ) → k ≤ 20 → 2 ^ k ≤ 2 ^ 20
below_power k l = elim (cases_lt k 20) [
  | inl m ↦ (let r = pow_below k 20 m in omega (arith, r))
  | inr m ↦ (let e : k ≡ 20 = omega arith in subst (λ z. 2 ^ z ≤ 2 ^ 20) (sym e) (omega arith))
]

zeros_below : (n p : ℕ) → get_or (replicate n 0) p 0 ≤ 65536
zeros_below zero p = omega arith
zeros_below (suc n) zero = omega arith
zeros_below (suc n) (suc p) = zeros_below n p

module _ (ends : List ChainLink) (n : ℕ) (some : 0 < length ends) (few : length ends ≤ 2 ^ 20) (pages : n ≤ 65536) (empty : AreEmpty ends) where
  abbrev no_links : List (List ChainLink)
  no_links = away n

  abbrev no_items : List (List (Option PlainItem))
  no_items = away n

  bounded_away : Bounded no_links
  bounded_away = record { pages = (let r : length (away {X = ChainLink} n) ≡ n = length_away ChainLink n in omega (arith, r, pages)); slots_below = λ p. subst (λ ns. get_or ns p 0 ≤ 65536) (sym (sizes_away ChainLink n)) (zeros_below n p) }

  ring_away : (b : Bucket) → b.number < length ends → Path (next_in ends no_links) (previous_in ends no_links) (End b) [] (End b)
  ring_away b l = let q = empty b.number l in record { onward = ap (option_map (λ (k : ChainLink). k.next)) q; back = ap (option_map (λ (k : ChainLink). k.previous)) q }

  chain_away : (b : ℕ) → b < length ends → chain ends no_links b ≡ []
  chain_away b l = let c : Bucket = record { number = b } in trail_is ends no_links bounded_away (End c) [] c (ring_away c l)

  pub open_chained : IsChained ends no_links no_items
  open_chained = record {
    ring = λ b l. subst (λ xs. Path (next_in ends no_links) (previous_in ends no_links) (End b) xs (End b)) (sym (chain_away b.number l)) (ring_away b l);
    home = λ b x l m. absurd (subst (In x) (chain_away b l) m);
    alone = λ b x y k l m o t u. absurd (subst (In x) (chain_away b l) m);
    some = some;
    few = few;
    same_sizes = sizes_away ChainLink n ∙ sym (sizes_away (Option PlainItem) n);
    pages = bounded_away.pages;
    slots_below = bounded_away.slots_below;
  }

  pub open_value : index_of ends no_links no_items ≡ empty_index n
  open_value =
      same_index ends no_links no_items open_chained (empty_index n)
      (fin.same_map chunk_cmp_total chunk_cmp_exact _ _ (λ q. get-made no_items q ∙ (at_away n q ∙ sym (fin.get-empty chunk_cmp q))))
      (λ k. ap (λ xs. find_in (at no_items) k xs None) (chain_away (bucket_of (length ends) k) (bucket_below (length ends) k some)) ∙ sym (fin.get-empty (slice_cmp nat_cmp) k))
      (sizes_away (Option PlainItem) n)

-- the same, as the code has it
module _ (ends : List ChainLink) (links : List (List ChainLink)) (items : List (List (Option PlainItem))) (n k : ℕ) (power : k ≤ 20) (pages : n ≤ 65536) (count : length ends ≡ 2 ^ k) (empty : AreEmpty ends) (l : links ≡ away n) (i : items ≡ away n) where
  some_ends : 0 < length ends
  some_ends = let p = pow_pos k in omega (arith, p, count)

  few_ends : length ends ≤ 2 ^ 20
  few_ends = subst (λ z. z ≤ 2 ^ 20) (sym count) (below_power k power)

  pub opened_chained : IsChained ends links items
  opened_chained = subst (λ g. IsChained ends g items) (sym l) (subst (IsChained ends (away n)) (sym i) (open_chained ends n some_ends few_ends pages empty))

  pub opened_value : index_of ends links items ≡ empty_index n
  opened_value = ap (λ g. index_of ends g items) l ∙ (ap (index_of ends (away n)) i ∙ open_value ends n some_ends few_ends pages empty)
