-- Other buckets: each chunk of all chains is entered anew, in empty ones, over the links by which it was found.
use Rattle.std.proofs.Common.{◌≡◌, ◌≢◌, ℕ, suc, zero, ◌+◌, ◌<◌, ◌≤◌, ◌^◌, true, false, cond, Option, Some, None, IsSome, List, [], ◌∷◌, ◌++◌, length, get_or, slice_get, inl, inr, refl, sym, ◌∙◌, ap, subst, arith, option_map}
use Rattle.std.proofs.lemmas.Bool.{cases_Bool, false≢true}
use Rattle.std.proofs.lemmas.Option.{slice_get-get_or}
use Rattle.std.specs.Ordering.{nat_cmp}
use Rattle.std.specs.Cmp.Lexicographic.{slice_cmp, nat_list_cmp_total}
use Rattle.std.specs.FinMap as fin
use Rattle.rev_links.specs.declared.places.RingPlace.TheVariants.{End, At}
use Rattle.rev_links.specs.Rings.{Path, In}
use Rattle.rev_links.proofs.Rings.{Distinct, distinct_path}
use Rattle.rev_items.specs.Plain.{PlainItem}
use Rattle.rev_model.specs.State.{Keys}
use Rattle.rev_model.specs.declared.ChunkRef.{ChunkRef}
use Rattle.rev_index.specs.Made.{at}
use Rattle.rev_index.specs.declared.chains.Bucket.{Bucket}
use Rattle.rev_index.specs.Chains.{ChainPlace, ChainLink, link_at, next_in, previous_in, trail, chain, bucket_of}
use Rattle.rev_index.specs.Index.{PlainIndex, bound, bound_all, bound_below, members_below, members, AreNew, keys_of, index_of, is_named, find_in, IsChained, AreEmpty}
use Rattle.rev_links.specs.Grids.{cell_at}
use Rattle.rev_index.proofs.Steps.{Bounded, trail_is}
use Rattle.rev_index.proofs.Maps.{key_exact, key_self, same_key, named_home, get-bound, get-bound_all, find_none, none_below}
use Rattle.rev_index.proofs.Kept.{bounded, bucket_below, same_index, content_is, item_is, keys_are, slots_are, Leads, leads_there, trail_step, trail_end}
use Rattle.rev_index.proofs.Moves.{home_item}

-- ---- along a chain
-- the chunks of a chain from a place on, that at the place with them
abbrev pub ahead : (ends : List ChainLink) (links : List (List ChainLink)) → ChainPlace → List ChunkRef
ahead ends links (End e) = []
ahead ends links (At m) = m ∷ trail ends links (At m)

-- the links lead on from the place, where a chunk is there
abbrev pub Goes : (ends : List ChainLink) (links : List (List ChainLink)) → ChainPlace → Type 0
Goes ends links q = (m : ChunkRef) → q ≡ At m → Leads ends links (At m)

pub at_inj : (x y : ChunkRef) → ◌≡◌ {A = ChainPlace} (At x) (At y) → x ≡ y
at_inj x y e = cc

-- behind a place comes what stands next to it
pub ahead_next : (ends : List ChainLink) (links : List (List ChainLink)) → Bounded links → (p q : ChainPlace) → Leads ends links p → next_in ends links p ≡ Some q
    → (trail ends links p ≡ ahead ends links q) × Goes ends links q
ahead_next ends links b p q h n = go (link_at ends links p) refl n
  where
    at_place : (q : ChainPlace) (link : ChainLink) → link_at ends links p ≡ Some link → link.next ≡ q → (trail ends links p ≡ ahead ends links q) × Goes ends links q
    at_place (End e) link is u = (trail_end ends links b p link e h is u, λ m v. cc)
    at_place (At m) link is u =
        let r = trail_step ends links b p link m h is u in
        (r.1, λ k v. subst (λ z. Leads ends links (At z)) (at_inj m k v) r.0)

    go : (o : Option ChainLink) → link_at ends links p ≡ o → option_map (λ (l : ChainLink). l.next) o ≡ Some q → (trail ends links p ≡ ahead ends links q) × Goes ends links q
    go None is e = cc
    go (Some link) is e = at_place q link is cc

-- ---- the map of the keys of a list of chunks
module _ (item : ChunkRef → Option PlainItem) where
  bound_all-append : (xs ys : List ChunkRef) (m : Keys) → bound_all item (xs ++ ys) m ≡ bound_all item xs (bound_all item ys m)
  bound_all-append [] ys m = refl
  bound_all-append (x ∷ xs) ys m = ap (bound x (item x)) (bound_all-append xs ys m)

  pub bound_members : (chain : ℕ → List ChunkRef) (n : ℕ) → bound_all item (members_below chain n) fin.empty ≡ bound_below chain item n
  bound_members chain zero = refl
  bound_members chain (suc n) = bound_all-append (chain n) (members_below chain n) fin.empty ∙ ap (bound_all item (chain n)) (bound_members chain n)

  new-append : (xs ys : List ChunkRef) (m : Keys) → AreNew item (bound_all item ys m) xs → AreNew item m ys → AreNew item m (xs ++ ys)
  new-append [] ys m a b = b
  new-append (x ∷ xs) ys m a b =
      let i : PlainItem = a.0.0 in
      ((i, a.0.1, ap (λ n. fin.get n i.key) (bound_all-append xs ys m) ∙ a.0.2), new-append xs ys m a.1 b)

  -- where none is found with a key, none has it
  none_named : (k : List ℕ) (xs : List ChunkRef) (o : Option ChunkRef) → find_in item k xs o ≡ None → (y : ChunkRef) → In y xs → is_named k (item y) ≡ true → ⊥
  none_named k [] o e y i t = i
  none_named k (x ∷ xs) o e y i t = elim (cases_Bool (is_named k (item x))) [
    | inl u ↦ (let w : Some x ≡ None = ap (λ b. cond b (Some x) (find_in item k xs o)) (sym u) ∙ e in cc)
    | inr u ↦ elim i [
      | inl q ↦ false≢true (sym u ∙ (ap (λ z. is_named k (item z)) q ∙ t))
      | inr j ↦ none_named k xs o (ap (λ b. cond b (Some x) (find_in item k xs o)) (sym u) ∙ e) y j t
    ]
  ]

  -- a new chunk with the item i in front of others
  module _ (x : ChunkRef) (xs : List ChunkRef) (m : Keys) (i : PlainItem) (is : item x ≡ Some i) (free : fin.get (bound_all item xs m) i.key ≡ None) where
    pub apart : (y : ChunkRef) → In y xs → is_named i.key (item y) ≡ true → ⊥
    apart = none_named i.key xs (fin.get m i.key) (sym (get-bound_all item i.key xs m) ∙ free)

    -- its key is not in the map before the others are
    pub free_before : fin.get m i.key ≡ None
    free_before = sym (find_none item i.key xs (fin.get m i.key) apart) ∙ (sym (get-bound_all item i.key xs m) ∙ free)

    pub not_among : In x xs → ⊥
    not_among j = apart x j (ap (is_named i.key) is ∙ key_self i.key)

  -- it may as well be bound before those behind it
  bound_first : (x : ChunkRef) (xs : List ChunkRef) (m : Keys) (i : PlainItem) → item x ≡ Some i → ((y : ChunkRef) → In y xs → is_named i.key (item y) ≡ true → ⊥)
      → bound_all item xs (bound x (item x) m) ≡ bound x (item x) (bound_all item xs m)
  bound_first x xs m i is apart = fin.same_map nat_list_cmp_total key_exact _ _ (λ k. go k)
    where
      go : (k : List ℕ) → fin.get (bound_all item xs (bound x (item x) m)) k ≡ fin.get (bound x (item x) (bound_all item xs m)) k
      go k =
          get-bound_all item k xs (bound x (item x) m)
          ∙ (ap (find_in item k xs) (get-bound x (item x) m k)
          ∙ (elim (cases_Bool (is_named k (item x))) [
            | inl t ↦
                let e : k ≡ i.key = same_key k i.key (sym (ap (is_named k) is) ∙ t) in
                ap (λ b. find_in item k xs (cond b (Some x) (fin.get m k))) t
                ∙ (find_none item k xs (Some x) (λ y j u. apart y j (subst (λ q. is_named q (item y) ≡ true) e u))
                ∙ sym (ap (λ b. cond b (Some x) (find_in item k xs (fin.get m k))) t))
            | inr t ↦
                ap (λ b. find_in item k xs (cond b (Some x) (fin.get m k))) t
                ∙ sym (ap (λ b. cond b (Some x) (find_in item k xs (fin.get m k))) t)
          ]
          ∙ (ap (cond (is_named k (item x)) (Some x)) (sym (get-bound_all item k xs m))
          ∙ sym (get-bound x (item x) (bound_all item xs m) k))))

  -- and the others are still new then
  new_behind : (x : ChunkRef) (xs : List ChunkRef) (m : Keys) (i : PlainItem) → item x ≡ Some i → ((y : ChunkRef) → In y xs → is_named i.key (item y) ≡ true → ⊥)
      → AreNew item m xs → AreNew item (bound x (item x) m) xs
  new_behind x [] m i is apart a = tt
  new_behind x (y ∷ ys) m i is apart a =
      let j : PlainItem = a.0.0 in
      let has : item y ≡ Some j = a.0.1 in
      let other : is_named j.key (item x) ≡ false = elim (cases_Bool (is_named j.key (item x))) [
        | inl t ↦
            let e : j.key ≡ i.key = same_key j.key i.key (sym (ap (is_named j.key) is) ∙ t) in
            absurd (apart y (inl refl) (ap (λ q. is_named q (item y)) (sym e) ∙ (ap (is_named j.key) has ∙ key_self j.key)))
        | inr t ↦ t
      ] in (
        (
          j,
          has,
          get-bound_all item j.key ys (bound x (item x) m)
              ∙ (ap (find_in item j.key ys) (get-bound x (item x) m j.key ∙ ap (λ b. cond b (Some x) (fin.get m j.key)) other)
              ∙ (sym (get-bound_all item j.key ys m) ∙ a.0.2)),
        ),
        new_behind x ys m i is (λ z k t. apart z (inr k) t) a.1,
      )

-- the chunks of chains have keys that differ
module _ (ends : List ChainLink) (links : List (List ChainLink)) (items : List (List (Option PlainItem))) (h : IsChained ends links items) where
  chain_new : (n : ℕ) → n < length ends → (xs : List ChunkRef) → Distinct xs → ((x : ChunkRef) → In x xs → In x (chain ends links n))
      → AreNew (at items) (bound_below (chain ends links) (at items) n) xs
  chain_new n l [] d s = tt
  chain_new n l (x ∷ xs) d s =
      let r = home_item (length ends) n (at items x) (h.home n x l (s x (inl refl))) in
      let i : PlainItem = r.0 in
      let named : is_named i.key (at items x) ≡ true = ap (is_named i.key) r.1 ∙ key_self i.key in
      let below = bound_below (chain ends links) (at items) n in (
        (
          i,
          r.1,
          get-bound_all (at items) i.key xs below
              ∙ (find_none (at items) i.key xs (fin.get below i.key) (λ y m t. d.0 (subst (λ z. In z xs) (h.alone n y x i.key l (s y (inr m)) (s x (inl refl)) t named) m))
              ∙ none_below (chain ends links) (at items) i.key n (λ b y k m t.
              let w : bucket_of (length ends) i.key ≡ b = named_home (length ends) b i.key (at items y) (h.home b y (omega arith) m) t in
              let u : bucket_of (length ends) i.key ≡ n = r.2 in
              absurd (omega arith))),
        ),
        chain_new n l xs d.1 (λ y m. s y (inr m)),
      )

  pub members_new : (n : ℕ) → n ≤ length ends → AreNew (at items) fin.empty (members_below (chain ends links) n)
  members_new zero l = tt
  members_new (suc n) l =
      let b : Bucket = record { number = n } in
      new-append (at items) (chain ends links n) (members_below (chain ends links) n) fin.empty
      (subst (λ m. AreNew (at items) m (chain ends links n)) (sym (bound_members (at items) (chain ends links) n))
      (chain_new n (omega arith) (chain ends links n) (distinct_path (next_in ends links) (previous_in ends links) (End b) (chain ends links n) b (h.ring b (omega arith))) (λ x m. m)))
      (members_new n (omega arith))

  -- ---- empty buckets in place of the old ones
  module _ (ends' : List ChainLink) (some : 0 < length ends') (few : length ends' ≤ 2 ^ 20) (empty : AreEmpty ends') where
    ring_emptied : (b : Bucket) → b.number < length ends' → Path (next_in ends' links) (previous_in ends' links) (End b) [] (End b)
    ring_emptied b l = let q = empty b.number l in record { onward = ap (option_map (λ (k : ChainLink). k.next)) q; back = ap (option_map (λ (k : ChainLink). k.previous)) q }

    chain_emptied : (b : ℕ) → b < length ends' → chain ends' links b ≡ []
    chain_emptied b l = let c : Bucket = record { number = b } in trail_is ends' links (bounded ends links items h) (End c) [] c (ring_emptied c l)

    emptied_chained : IsChained ends' links items
    emptied_chained = record {
      ring = λ b l. subst (λ xs. Path (next_in ends' links) (previous_in ends' links) (End b) xs (End b)) (sym (chain_emptied b.number l)) (ring_emptied b l);
      home = λ b x l m. absurd (subst (In x) (chain_emptied b l) m);
      alone = λ b x y k l m o t u. absurd (subst (In x) (chain_emptied b l) m);
      some = some;
      few = few;
      same_sizes = h.same_sizes;
      pages = h.pages;
      slots_below = h.slots_below;
    }

    emptied_value : index_of ends' links items ≡ record (index_of ends links items) { keys = fin.empty }
    emptied_value =
        let v = index_of ends links items in
        same_index ends' links items emptied_chained (record v { keys = fin.empty })
        (content_is ends links items h v refl)
        (λ k. ap (λ xs. find_in (at items) k xs None) (chain_emptied (bucket_of (length ends') k) (bucket_below (length ends') k some)) ∙ sym (fin.get-empty (slice_cmp nat_cmp) k))
        (slots_are ends links items h v refl)

    emptied_new : AreNew (at items) (index_of ends' links items).keys (members ends links)
    emptied_new = subst (λ m. AreNew (at items) m (members ends links)) (sym (ap (λ (w : PlainIndex). w.keys) emptied_value)) (members_new (length ends) (omega arith))

    all_keys : bound_all (at items) (members ends links) fin.empty ≡ (index_of ends links items).keys
    unfolding keys_of
    all_keys = bound_members (at items) (chain ends links) (length ends) ∙ keys_are ends links items h (index_of ends links items) refl

    regrown : (w : PlainIndex) → (let v = index_of ends' links items in w ≡ record v { keys = bound_all (at items) (members ends links) v.keys }) → w ≡ index_of ends links items
    regrown w a =
        let v = index_of ends links items in
        a
        ∙ (ap (λ (z : PlainIndex). record z { keys = bound_all (at items) (members ends links) z.keys }) emptied_value
        ∙ ap (λ m. record v { keys = m }) all_keys)

    -- the empty ones are those that are there now, and the old ones those that were there
    module _ (now was : List ChainLink) (p : now ≡ ends') (q : was ≡ ends) where
      pub replaced_kept : IsChained now links items
      replaced_kept = subst (λ es. IsChained es links items) (sym p) emptied_chained

      pub replaced_new : AreNew (at items) (index_of now links items).keys (members was links)
      replaced_new =
          subst (λ es. AreNew (at items) (index_of es links items).keys (members was links)) (sym p)
          (subst (λ es. AreNew (at items) (index_of ends' links items).keys (members es links)) (sym q) emptied_new)

      pub replaced_value : (w : PlainIndex) → (let v = index_of now links items in w ≡ record v { keys = bound_all (at items) (members was links) v.keys }) → w ≡ index_of ends links items
      replaced_value w a =
          regrown w (a ∙ (ap (λ es. let v = index_of es links items in record v { keys = bound_all (at items) (members was links) v.keys }) p
          ∙ ap (λ es. let v = index_of ends' links items in record v { keys = bound_all (at items) (members es links) v.keys }) q))

-- ---- chunks entered one by one
-- what is there and what is still to be entered lead to the value w
pub record Enters (ends : List ChainLink) (links : List (List ChainLink)) (items : List (List (Option PlainItem))) (xs : List ChunkRef) (w : PlainIndex) : Type 0 where
  pub kept : IsChained ends links items
  pub new : AreNew (at items) (index_of ends links items).keys xs
  pub leads : let v = index_of ends links items in record v { keys = bound_all (at items) xs v.keys } ≡ w

module _ (ends : List ChainLink) (links : List (List ChainLink)) (items : List (List (Option PlainItem))) (xs : List ChunkRef) (w : PlainIndex) (n : Enters ends links items xs w) where
  pub entered : xs ≡ [] → index_of ends links items ≡ w
  entered e = let v = index_of ends links items in sym (ap (λ ys. record v { keys = bound_all (at items) ys v.keys }) e) ∙ n.leads

  module _ (x : ChunkRef) (ys : List ChunkRef) (e : xs ≡ x ∷ ys) where
    news : AreNew (at items) (index_of ends links items).keys (x ∷ ys)
    news = subst (AreNew (at items) (index_of ends links items).keys) e n.new

    pub enter_apart : In x ys → ⊥
    enter_apart = not_among (at items) x ys (index_of ends links items).keys news.0.0 news.0.1 news.0.2

    pub enter_item : let v = index_of ends links items in (i : PlainItem) × (fin.get v.content x ≡ Some i) × (fin.get v.keys i.key ≡ None)
    enter_item =
        let v = index_of ends links items in
        let r = news.0 in
        (r.0, item_is ends links items n.kept v refl x ∙ r.1, free_before (at items) x ys v.keys r.0 r.1 r.2)

    pub enter_more : (ends' : List ChainLink) (links' : List (List ChainLink)) → IsChained ends' links' items
        → (let v = index_of ends links items in index_of ends' links' items ≡ record v { keys = bound x (fin.get v.content x) v.keys }) → Enters ends' links' items ys w
    enter_more ends' links' h a =
        let v = index_of ends links items in
        let r = news.0 in
        let b : index_of ends' links' items ≡ record v { keys = bound x (at items x) v.keys } = a ∙ ap (λ o. record v { keys = bound x o v.keys }) (item_is ends links items n.kept v refl x) in
        let others = apart (at items) x ys v.keys r.0 r.1 r.2 in
        record {
          kept = h;
          new = subst (λ m. AreNew (at items) m ys) (sym (ap (λ (z : PlainIndex). z.keys) b)) (new_behind (at items) x ys v.keys r.0 r.1 others news.1);
          leads = ap (λ (z : PlainIndex). record z { keys = bound_all (at items) ys z.keys }) b
              ∙ (ap (λ m. record v { keys = m }) (bound_first (at items) x ys v.keys r.0 r.1 others ∙ ap (λ l. bound_all (at items) l v.keys) (sym e)) ∙ n.leads);
        }

-- ---- chains whose chunks are entered in others, while the links still lead to the next one
-- what is still to be entered: the rest of a chain from a place on, and the chains of the first n buckets
abbrev pub left : (ends : List ChainLink) (links : List (List ChainLink)) → ChainPlace → ℕ → List ChunkRef
left ends links p n = ahead ends links p ++ members_below (chain ends links) n

-- the chains that are taken apart are those of the ends old, by the links as they were at first
pub record Moves (old : List ChainLink) (first : List (List ChainLink)) (ends : List ChainLink) (links : List (List ChainLink)) (items : List (List (Option PlainItem))) (p : ChainPlace) (n : ℕ) (w : PlainIndex) : Type 0 where
  pub enters : Enters ends links items (left old first p n) w
  pub goes : Goes old first p
  pub below : n ≤ length old
  pub same : (y : ChunkRef) → In y (left old first p n) → next_in ends links (At y) ≡ next_in old first (At y)

module _ (old : List ChainLink) (first : List (List ChainLink)) (items : List (List (Option PlainItem))) (from : IsChained old first items) (w : PlainIndex) where
  pub moves_init : (ends : List ChainLink) → IsChained ends first items → (e : Bucket) → (n : ℕ) → n ≡ length old
      → AreNew (at items) (index_of ends first items).keys (members old first)
      → (let v = index_of ends first items in record v { keys = bound_all (at items) (members old first) v.keys } ≡ w)
      → Moves old first ends first items (End e) n w
  moves_init ends kept e n is new leads = record {
    enters = subst (λ k. Enters ends first items (left old first (End e) k) w) (sym is) (record { kept = kept; new = new; leads = leads });
    goes = λ m v. cc;
    below = omega arith;
    same = λ y i. refl;
  }

  module _ (ends : List ChainLink) (links : List (List ChainLink)) (p : ChainPlace) (n : ℕ) (h : Moves old first ends links items p n w) where
    -- a bucket more
    pub moves_bucket : (e : Bucket) → p ≡ End e → (k : ℕ) → n ≡ suc k → (d : ChainLink)
        → Moves old first ends links items (get_or old k d).next k w × (length (left old first (get_or old k d).next k) + k < length (left old first p n) + n)
    moves_bucket e u k is d =
        let b : Bucket = record { number = k } in
        let link : ChainLink = get_or old k d in
        let l : k < length old = let q = h.below in omega arith in
        let has : slice_get old k ≡ Some link = slice_get-get_or old k d l in
        let r = ahead_next old first (bounded old first items from) (End b) link.next (record { xs = chain old first k; e = b; path = from.ring b l }) (ap (option_map (λ (z : ChainLink). z.next)) has) in
        let all : left old first p n ≡ left old first link.next k =
        ap (λ q. left old first q n) u ∙ (ap (members_below (chain old first)) is ∙ ap (λ xs. xs ++ members_below (chain old first) k) r.0) in (
          record {
            enters = subst (λ xs. Enters ends links items xs w) all h.enters;
            goes = r.1;
            below = omega arith;
            same = λ y i. h.same y (subst (In y) (sym all) i);
          },
          (let q = ap length all in omega arith),
        )

    -- a chunk more
    module _ (m : ChunkRef) (u : p ≡ At m) where
      pub moves_there : IsSome (link_at ends links (At m))
      moves_there =
          let t = leads_there old first (At m) (h.goes m u) in
          same_there (cell_at first m.page m.slot) (cell_at links m.page m.slot) (h.same m (subst (λ q. In m (left old first q n)) (sym u) (inl refl))) t
        where
          same_there : (a b : Option ChainLink) → option_map (λ (l : ChainLink). l.next) b ≡ option_map (λ (l : ChainLink). l.next) a → IsSome a → IsSome b
          same_there None b e t = cc
          same_there (Some a) None e t = cc
          same_there (Some a) (Some b) e t = refl

      module _ (link : ChainLink) (is : link_at ends links (At m) ≡ Some link) where
        onward : (trail old first (At m) ≡ ahead old first link.next) × Goes old first link.next
        onward = ahead_next old first (bounded old first items from) (At m) link.next (h.goes m u)
            (sym (h.same m (subst (λ q. In m (left old first q n)) (sym u) (inl refl))) ∙ ap (option_map (λ (z : ChainLink). z.next)) is)

        all : left old first p n ≡ m ∷ left old first link.next n
        all = ap (λ q. left old first q n) u ∙ ap (λ xs. m ∷ (xs ++ members_below (chain old first) n)) onward.0

        pub moves_item : let v = index_of ends links items in (i : PlainItem) × (fin.get v.content m ≡ Some i) × (fin.get v.keys i.key ≡ None)
        moves_item = enter_item ends links items (left old first p n) w h.enters m (left old first link.next n) all

        pub moves_smaller : length (left old first link.next n) + n < length (left old first p n) + n
        moves_smaller = let q = ap length all in omega arith

        pub moves_chunk : (ends' : List ChainLink) (links' : List (List ChainLink)) → IsChained ends' links' items
            → (let v = index_of ends links items in index_of ends' links' items ≡ record v { keys = bound m (fin.get v.content m) v.keys })
            → ((y : ChunkRef) → y ≢ m → next_in ends' links' (At y) ≡ next_in ends links (At y))
            → Moves old first ends' links' items link.next n w
        moves_chunk ends' links' kept value others = record {
          enters = enter_more ends links items (left old first p n) w h.enters m (left old first link.next n) all ends' links' kept value;
          goes = onward.1;
          below = h.below;
          same = λ y i.
              others y (λ e. enter_apart ends links items (left old first p n) w h.enters m (left old first link.next n) all (subst (λ z. In z (left old first link.next n)) e i))
              ∙ h.same y (subst (In y) (sym all) (inr i));
        }

    -- none left
    pub moves_end : (e : Bucket) → p ≡ End e → n ≡ 0 → index_of ends links items ≡ w
    moves_end e u z = entered ends links items (left old first p n) w h.enters (ap (λ q. left old first q n) u ∙ ap (members_below (chain old first)) z)
