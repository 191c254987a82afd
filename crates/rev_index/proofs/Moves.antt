-- What the moves of the index do, at the value that callers see.
use Rattle.std.proofs.Common.{◌≡◌, ◌≢◌, ℕ, ◌<◌, true, cond, Option, Some, None, IsSome, List, ◌∷◌, length, get_or, inl, inr, refl, sym, ◌∙◌, ap, subst, arith}
use Rattle.std.proofs.lemmas.Bool.{cases_Bool, false≢true}
use Rattle.std.specs.FinMap as fin
use Rattle.rev_links.specs.declared.places.RingPlace.TheVariants.{End, At}
use Rattle.rev_links.proofs.Members.{without}
use Rattle.rev_links.specs.Rings.{In, Between, Gap}
use Rattle.rev_links.proofs.Rings.{distinct_path, In-without, not_In-without}
use Rattle.rev_links.proofs.Lists.{between_in, gap_in, taken_own, taken_other, put_own, put_other}
use Rattle.rev_items.specs.Plain.{PlainItem}
use Rattle.rev_model.specs.Chunk.{same_chunk}
use Rattle.rev_model.specs.declared.ChunkRef.{ChunkRef}
use Rattle.rev_index.specs.Made.{at}
use Rattle.rev_index.specs.declared.chains.Bucket.{Bucket}
use Rattle.rev_index.specs.Chains.{ChainLink, link_at, next_in, previous_in, SameShape, Closes, Opens, chain, bucket_of}
use Rattle.rev_index.specs.Index.{PlainIndex, bound, unbound, index_of, is_named, find_in, IsHome, IsChained}
use Rattle.rev_links.proofs.Grids.{cell_from_size, size_from_cell}
use Rattle.rev_index.proofs.Maps.{same_key, key_self, named_home, get-bound, get-unbound, find_none, found, find_without}
use Rattle.rev_index.proofs.Kept.{tells, some_cell, bucket_below, find_bound, Becomes, chained_after, index_after, content_is, item_is, keys_are, slots_are, find_is}

pub named_parts : (k : List ℕ) (o : Option PlainItem) → is_named k o ≡ true → (i : PlainItem) × (o ≡ Some i) × (k ≡ i.key)
named_parts k None e = absurd (false≢true e)
named_parts k (Some i) e = (i, refl, same_key k i.key e)

pub home_item : (n b : ℕ) (o : Option PlainItem) → IsHome n b o → (i : PlainItem) × (o ≡ Some i) × (bucket_of n i.key ≡ b)
home_item n b None h = absurd h
home_item n b (Some i) h = (i, refl, h)

module _ (ends : List ChainLink) (links : List (List ChainLink)) (items : List (List (Option PlainItem))) (h : IsChained ends links items) (v : PlainIndex) (e : index_of ends links items ≡ v) where
  abbrev there : Bucket → Type 0
  there b = b.number < length ends

  abbrev members : Bucket → List ChunkRef
  members b = chain ends links b.number

  -- ---- a chunk with an item
  module _ (x : ChunkRef) (i : PlainItem) (has : fin.get v.content x ≡ Some i) where
    at_x : at items x ≡ Some i
    at_x = sym (item_is ends links items h v e x) ∙ has

    pub item_there : IsSome (at items x)
    item_there = subst IsSome (sym at_x) refl

    named_x : is_named i.key (at items x) ≡ true
    named_x = ap (is_named i.key) at_x ∙ key_self i.key

    key_of : (k : List ℕ) → is_named k (at items x) ≡ true → k ≡ i.key
    key_of k t = same_key k i.key (sym (ap (is_named k) at_x) ∙ t)

    -- ---- bound
    module _ (free : fin.get v.keys i.key ≡ None) (b : Bucket) (hb : IsHome (length ends) b.number (at items x)) where
      home_x : bucket_of (length ends) i.key ≡ b.number
      home_x = named_home (length ends) b.number i.key (at items x) hb named_x

      below : there b
      below = let l = bucket_below (length ends) i.key h.some in let q = home_x in omega arith

      lost : (d : ℕ) (y : ChunkRef) → d < length ends → In y (chain ends links d) → is_named i.key (at items y) ≡ true → ⊥
      lost d y l m t =
          let w = named_home (length ends) d i.key (at items y) (h.home d y l m) t in
          let f = find_bound ends links items h d y i.key l m t in
          let g : find_in (at items) i.key (chain ends links d) None ≡ None = ap (λ c. find_in (at items) i.key (chain ends links c) None) (sym w) ∙ (find_is ends links items h v e i.key ∙ free) in
          cc

      nobody : (d : Bucket) → there d → In x (members d) → ⊥
      nobody d l m = lost d.number x l m named_x

      pub bind_there : IsSome (link_at ends links (At x))
      bind_there =
          let s = size_from_cell items x.page x.slot (some_cell items x item_there) in
          cell_from_size links x.page x.slot (subst (λ ns. x.slot < get_or ns x.page 0) (sym h.same_sizes) s)

      pub bind_gap : Gap (next_in ends links) (previous_in ends links) (End b) x
      bind_gap = gap_in same_chunk tells (next_in ends links) (previous_in ends links) there members h.ring b x None below (nobody b below) tt

      module _ (ends' : List ChainLink) (links' : List (List ChainLink)) (s : SameShape ends links ends' links') (k : Opens ends links ends' links' x (End b)) where
        bind_becomes : Becomes ends links ends' links' b (x ∷ members b)
        bind_becomes = record {
          shape = s;
          own = put_own same_chunk tells (next_in ends links) (previous_in ends links) there members h.ring (next_in ends' links') (previous_in ends' links') b x None k.n below (nobody b below) tt k.opened;
          others = λ d l apart. put_other same_chunk tells (next_in ends links) (previous_in ends links) there members h.ring (next_in ends' links') (previous_in ends' links') b x None k.n below nobody tt k.opened d l apart;
        }

        clash : (z : ChunkRef) (q : List ℕ) → In z (members b) → is_named q (at items x) ≡ true → is_named q (at items z) ≡ true → ⊥
        clash z q m t u = lost b.number z below m (subst (λ c. is_named c (at items z) ≡ true) (key_of q t) u)

        pub bind_chained : IsChained ends' links' items
        bind_chained = chained_after ends links items h ends' links' b (x ∷ members b) bind_becomes
            (λ y m. elim m [ inl u ↦ subst (λ z. IsHome (length ends) b.number (at items z)) u hb | inr j ↦ h.home b.number y below j ])
            (λ y z q m n t u. elim m [
              | inl p ↦ elim n [
                | inl r ↦ sym p ∙ r
                | inr r ↦ absurd (clash z q r (ap (λ c. is_named q (at items c)) p ∙ t) u)
              ]
              | inr p ↦ elim n [
                | inl r ↦ absurd (clash y q p (ap (λ c. is_named q (at items c)) r ∙ u) t)
                | inr r ↦ h.alone b.number y z q below p r t u
              ]
            ])

        pub bind_value : index_of ends' links' items ≡ record v { keys = bound x (fin.get v.content x) v.keys }
        bind_value =
            let w : PlainIndex = record v { keys = bound x (fin.get v.content x) v.keys } in
            index_after ends links items h ends' links' b (x ∷ members b) bind_becomes bind_chained w (content_is ends links items h v e) (slots_are ends links items h v e)
            (λ q u. ap (cond (is_named q (at items x)) (Some x)) (ap (λ c. find_in (at items) q (chain ends links c) None) (sym u) ∙ find_is ends links items h v e q) ∙ sym (get_new q))
            (λ q u. ap (λ m. fin.get m q) (keys_are ends links items h v e) ∙ sym (get_new q ∙ unnamed q u))
          where
            get_new : (q : List ℕ) → fin.get (bound x (fin.get v.content x) v.keys) q ≡ cond (is_named q (at items x)) (Some x) (fin.get v.keys q)
            get_new q = get-bound x (fin.get v.content x) v.keys q ∙ ap (λ o. cond (is_named q o) (Some x) (fin.get v.keys q)) (item_is ends links items h v e x)

            unnamed : (q : List ℕ) → bucket_of (length ends) q ≢ b.number → cond (is_named q (at items x)) (Some x) (fin.get v.keys q) ≡ fin.get v.keys q
            unnamed q u = elim (cases_Bool (is_named q (at items x))) [
              | inl t ↦ absurd (u (named_home (length ends) b.number q (at items x) hb t))
              | inr t ↦ ap (λ c. cond c (Some x) (fin.get v.keys q)) t
            ]

    -- ---- unbound
    module _ (taken : fin.get v.keys i.key ≡ Some x) where
      home_b : Bucket
      home_b = record { number = bucket_of (length ends) i.key }

      in_chain : In x (chain ends links (bucket_of (length ends) i.key))
      in_chain = (found (at items) i.key (chain ends links (bucket_of (length ends) i.key)) x (find_is ends links items h v e i.key ∙ taken)).0

      b_below : bucket_of (length ends) i.key < length ends
      b_below = bucket_below (length ends) i.key h.some

      pub unbind_between : Between (next_in ends links) (previous_in ends links) x
      unfolding home_b
      unbind_between = between_in same_chunk tells (next_in ends links) (previous_in ends links) there members h.ring home_b x b_below in_chain

      module _ (ends' : List ChainLink) (links' : List (List ChainLink)) (s : SameShape ends links ends' links') (k : Closes ends links ends' links' x) where
        left : List ChunkRef
        left = without same_chunk x (chain ends links (bucket_of (length ends) i.key))

        unbind_becomes : Becomes ends links ends' links' home_b left
        unfolding home_b left
        unbind_becomes = record {
          shape = s;
          own = taken_own same_chunk tells (next_in ends links) (previous_in ends links) there members h.ring (next_in ends' links') (previous_in ends' links') home_b x k.p k.n b_below in_chain k.closed;
          others = λ d l apart. taken_other same_chunk tells (next_in ends links) (previous_in ends links) there members h.ring (next_in ends' links') (previous_in ends' links') home_b x k.p k.n b_below in_chain k.closed d l apart;
        }

        was : (y : ChunkRef) → In y left → In y (chain ends links (bucket_of (length ends) i.key))
        unfolding left
        was y m = In-without same_chunk tells x y (chain ends links (bucket_of (length ends) i.key)) m

        pub unbind_chained : IsChained ends' links' items
        unfolding home_b
        unbind_chained = chained_after ends links items h ends' links' home_b left unbind_becomes
            (λ y m. h.home (bucket_of (length ends) i.key) y b_below (was y m))
            (λ y z q m n t u. h.alone (bucket_of (length ends) i.key) y z q b_below (was y m) (was z n) t u)

        gone : (q : List ℕ) → is_named q (at items x) ≡ true → (y : ChunkRef) → In y left → is_named q (at items y) ≡ true → ⊥
        unfolding left home_b
        gone q t y m u =
            let same : y ≡ x = h.alone (bucket_of (length ends) i.key) y x q b_below (was y m) in_chain u t in
            not_In-without same_chunk tells x (chain ends links (bucket_of (length ends) i.key))
            (distinct_path (next_in ends links) (previous_in ends links) (End home_b) (chain ends links (bucket_of (length ends) i.key)) home_b (h.ring home_b b_below))
            (subst (λ z. In z (without same_chunk x (chain ends links (bucket_of (length ends) i.key)))) same m)

        pub unbind_value : index_of ends' links' items ≡ record v { keys = unbound (fin.get v.content x) v.keys }
        unfolding home_b left
        unbind_value =
            let w : PlainIndex = record v { keys = unbound (fin.get v.content x) v.keys } in
            index_after ends links items h ends' links' home_b left unbind_becomes unbind_chained w (content_is ends links items h v e) (slots_are ends links items h v e)
            (λ q u. own q u ∙ sym (get_new q))
            (λ q u. ap (λ m. fin.get m q) (keys_are ends links items h v e) ∙ sym (get_new q ∙ unnamed q u))
          where
            get_new : (q : List ℕ) → fin.get (unbound (fin.get v.content x) v.keys) q ≡ cond (is_named q (at items x)) None (fin.get v.keys q)
            get_new q = get-unbound (fin.get v.content x) v.keys q ∙ ap (λ o. cond (is_named q o) None (fin.get v.keys q)) (item_is ends links items h v e x)

            unnamed : (q : List ℕ) → bucket_of (length ends) q ≢ bucket_of (length ends) i.key → cond (is_named q (at items x)) None (fin.get v.keys q) ≡ fin.get v.keys q
            unnamed q u = elim (cases_Bool (is_named q (at items x))) [
              | inl t ↦ absurd (u (ap (bucket_of (length ends)) (key_of q t)))
              | inr t ↦ ap (λ c. cond c None (fin.get v.keys q)) t
            ]

            own : (q : List ℕ) → bucket_of (length ends) q ≡ bucket_of (length ends) i.key → find_in (at items) q left None ≡ cond (is_named q (at items x)) None (fin.get v.keys q)
            own q u = elim (cases_Bool (is_named q (at items x))) [
              | inl t ↦ find_none (at items) q left None (gone q t) ∙ sym (ap (λ c. cond c None (fin.get v.keys q)) t)
              | inr t ↦
                  find_without (at items) q same_chunk tells (chain ends links (bucket_of (length ends) i.key)) None x (λ z. false≢true (sym t ∙ z))
                  ∙ (ap (λ c. find_in (at items) q (chain ends links c) None) (sym u) ∙ (find_is ends links items h v e q ∙ sym (ap (λ c. cond c None (fin.get v.keys q)) t)))
            ]

  pub find_value : (k : List ℕ) (b : ℕ) → b ≡ bucket_of (length ends) k → (r : Option ChunkRef) → r ≡ find_in (at items) k (chain ends links b) None → r ≡ fin.get v.keys k
  find_value k b u r f = f ∙ (ap (λ c. find_in (at items) k (chain ends links c) None) u ∙ find_is ends links items h v e k)
