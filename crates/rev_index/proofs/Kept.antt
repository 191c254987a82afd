-- What each step keeps, and what it does to the two maps.
use Rattle.std.proofs.Common.{◌≡◌, ◌≢◌, ℕ, suc, zero, ◌<◌, true, false, cond, Option, Some, None, IsSome, List, [], ◌∷◌, ◌++◌, length, get_or, slice_get, inl, inr, refl, sym, ◌∙◌, ap, subst, arith, map, option_map}
use Rattle.std.proofs.lemmas.Bool.{cases_eq, false≢true}
use Rattle.std.proofs.lemmas.Option.{get_or_from_slice_get}
use Rattle.std.specs.Cmp.Lexicographic.{nat_list_cmp_total}
use Rattle.std.specs.FinMap as fin
use Rattle.rev_links.specs.declared.places.RingPlace.TheVariants.{End, At}
use Rattle.rev_links.specs.Rings.{Path, In}
use Rattle.rev_links.proofs.Members.{Tells}
use Rattle.rev_links.proofs.Rings.{first_step}
use Rattle.rev_items.specs.Plain.{PlainItem}
use Rattle.rev_model.specs.Chunk.{same_chunk}
use Rattle.rev_model.proofs.Undo.{tells_chunk}
use Rattle.rev_model.specs.declared.ChunkRef.{ChunkRef}
use Rattle.rev_index.specs.Made.{made, at}
use Rattle.rev_index.proofs.Made.{get-made}
use Rattle.rev_index.specs.declared.chains.Bucket.{Bucket}
use Rattle.rev_links.specs.Grids.{cell_at}
use Rattle.rev_index.specs.Chains.{ChainPlace, ChainLink, link_at, next_in, previous_in, SameShape, trail, chain, bucket_of}
use Rattle.rev_index.specs.Index.{PlainIndex, keys_of, index_of, is_named, find_in, IsHome, IsChained, AllNone}
use Rattle.rev_index.proofs.Steps.{same_bucket, some_at_next, Bounded, bounded_shape, trail_is}
use Rattle.rev_index.proofs.Maps.{key_exact, named_home, get-bound_below, find_member}

pub tells : Tells same_chunk
tells = record {
  same = tells_chunk.exact;
  apart = λ x y h e. false≢true (sym h ∙ (ap (λ z. same_chunk x z) (sym e) ∙ tells_chunk.self x));
}

-- what the table has at a chunk, and its cell
pub at_cell : (items : List (List (Option PlainItem))) (x : ChunkRef) (o : Option PlainItem) → cell_at items x.page x.slot ≡ Some o → at items x ≡ o
at_cell items x o h = get_or_from_slice_get (get_or items x.page []) x.slot o None h

pub some_cell : (items : List (List (Option PlainItem))) (x : ChunkRef) → IsSome (at items x) → IsSome (cell_at items x.page x.slot)
some_cell items x h = go (get_or items x.page []) x.slot h
  where
    go : (xs : List (Option PlainItem)) (s : ℕ) → IsSome (get_or xs s None) → IsSome (slice_get xs s)
    go [] s k = cc
    go (y ∷ ys) zero k = refl
    go (y ∷ ys) (suc s) k = go ys s k

pub bounded : (ends : List ChainLink) (links : List (List ChainLink)) (items : List (List (Option PlainItem))) → IsChained ends links items → Bounded links
bounded ends links items h = record { pages = h.pages; slots_below = h.slots_below }

pub bucket_below : (n : ℕ) (k : List ℕ) → 0 < n → bucket_of n k < n
bucket_below n k l = omega arith

module _ (ends : List ChainLink) (links : List (List ChainLink)) (items : List (List (Option PlainItem))) (h : IsChained ends links items) where
  -- what a search along a key's chain finds is what the map has
  pub get-keys_of : (k : List ℕ) → fin.get (keys_of ends links items) k ≡ find_in (at items) k (chain ends links (bucket_of (length ends) k)) None
  unfolding keys_of
  get-keys_of k =
      get-bound_below (chain ends links) (at items) k (length ends) (bucket_of (length ends) k) (bucket_below (length ends) k h.some)
      (λ b x l i t. named_home (length ends) b k (at items x) (h.home b x l i) t)

  -- the one item with a key
  pub find_bound : (b : ℕ) (x : ChunkRef) (k : List ℕ) → b < length ends → In x (chain ends links b) → is_named k (at items x) ≡ true → find_in (at items) k (chain ends links b) None ≡ Some x
  find_bound b x k l i t = find_member (at items) k (chain ends links b) None x i t (λ y j u. h.alone b y x k l j i u t)

-- tables that stand for two maps have them as their value
pub same_index : (ends : List ChainLink) (links : List (List ChainLink)) (items : List (List (Option PlainItem))) → IsChained ends links items → (w : PlainIndex)
    → made items ≡ w.content → ((k : List ℕ) → find_in (at items) k (chain ends links (bucket_of (length ends) k)) None ≡ fin.get w.keys k) → map length items ≡ w.slots
    → index_of ends links items ≡ w
unfolding index_of
same_index ends links items h w a b c =
    let keys : keys_of ends links items ≡ w.keys = fin.same_map nat_list_cmp_total key_exact _ _ (λ k. get-keys_of ends links items h k ∙ b k) in
    λ i. record { content = a i; keys = keys i; slots = c i }

-- the chains after a step: that of bucket b is ys, and the others are as before
pub record Becomes (ends : List ChainLink) (links : List (List ChainLink)) (ends' : List ChainLink) (links' : List (List ChainLink)) (b : Bucket) (ys : List ChunkRef) : Type 0 where
  pub shape : SameShape ends links ends' links'
  pub own : Path (next_in ends' links') (previous_in ends' links') (End b) ys (End b)
  pub others : (d : Bucket) → d.number < length ends → d ≢ b → Path (next_in ends' links') (previous_in ends' links') (End d) (chain ends links d.number) (End d)

module _ (ends : List ChainLink) (links : List (List ChainLink)) (items : List (List (Option PlainItem))) (h : IsChained ends links items)
    (ends' : List ChainLink) (links' : List (List ChainLink)) (b : Bucket) (ys : List ChunkRef) (s : Becomes ends links ends' links' b ys) where
  bounds : Bounded links'
  bounds = bounded_shape ends links ends' links' s.shape (bounded ends links items h)

  pub chain_own : chain ends' links' b.number ≡ ys
  chain_own = trail_is ends' links' bounds (End b) ys b s.own

  pub chain_other : (d : ℕ) → d < length ends → d ≢ b.number → chain ends' links' d ≡ chain ends links d
  chain_other d l n =
      let d' : Bucket = record { number = d } in
      trail_is ends' links' bounds (End d') (chain ends links d) d' (s.others d' l (λ e. n (ap (λ (z : Bucket). z.number) e)))

  pub ring_after : (d : Bucket) → d.number < length ends' → Path (next_in ends' links') (previous_in ends' links') (End d) (chain ends' links' d.number) (End d)
  ring_after d m =
      let q = s.shape.same_ends in
      elim (cases_eq d.number b.number) [
        | inl e ↦ subst (λ z. Path (next_in ends' links') (previous_in ends' links') (End z) (chain ends' links' z.number) (End z)) (sym (same_bucket d b e))
            (subst (λ zs. Path (next_in ends' links') (previous_in ends' links') (End b) zs (End b)) (sym chain_own) s.own)
        | inr e ↦ subst (λ zs. Path (next_in ends' links') (previous_in ends' links') (End d) zs (End d)) (sym (chain_other d.number (omega arith) e))
            (s.others d (omega arith) (λ z. e (ap (λ (w : Bucket). w.number) z)))
      ]

  -- all that is kept, where the members of the changed chain are as they should
  pub chained_after : ((x : ChunkRef) → In x ys → IsHome (length ends) b.number (at items x))
      → ((x y : ChunkRef) (k : List ℕ) → In x ys → In y ys → is_named k (at items x) ≡ true → is_named k (at items y) ≡ true → x ≡ y)
      → IsChained ends' links' items
  chained_after home alone =
      let q = s.shape.same_ends in
      let m = h.some in
      let f = h.few in
      record {
        ring = ring_after;
        home = λ d x l i. subst (λ n. IsHome n d (at items x)) (sym q) (elim (cases_eq d b.number) [
          | inl e ↦ subst (λ n. IsHome (length ends) n (at items x)) (sym e) (home x (subst (In x) (ap (chain ends' links') e ∙ chain_own) i))
          | inr e ↦ h.home d x (omega arith) (subst (In x) (chain_other d (omega arith) e) i)
        ]);
        alone = λ d x y k l i j t u. elim (cases_eq d b.number) [
          | inl e ↦ alone x y k (subst (In x) (ap (chain ends' links') e ∙ chain_own) i) (subst (In y) (ap (chain ends' links') e ∙ chain_own) j) t u
          | inr e ↦ h.alone d x y k (omega arith) (subst (In x) (chain_other d (omega arith) e) i) (subst (In y) (chain_other d (omega arith) e) j) t u
        ];
        some = omega arith;
        few = omega arith;
        same_sizes = s.shape.same_sizes ∙ h.same_sizes;
        pages = bounds.pages;
        slots_below = bounds.slots_below;
      }

  -- the value, where the changed chain finds what the new map has
  pub index_after : IsChained ends' links' items → (w : PlainIndex) → made items ≡ w.content → map length items ≡ w.slots
      → ((k : List ℕ) → bucket_of (length ends) k ≡ b.number → find_in (at items) k ys None ≡ fin.get w.keys k)
      → ((k : List ℕ) → bucket_of (length ends) k ≢ b.number → fin.get (keys_of ends links items) k ≡ fin.get w.keys k)
      → index_of ends' links' items ≡ w
  index_after h' w content slots own other =
      same_index ends' links' items h' w content
      (λ k.
      let n : bucket_of (length ends') k ≡ bucket_of (length ends) k = ap (λ m. bucket_of m k) s.shape.same_ends in
      ap (λ m. find_in (at items) k (chain ends' links' m) None) n
      ∙ elim (cases_eq (bucket_of (length ends) k) b.number) [
        | inl e ↦ ap (λ c. find_in (at items) k c None) (ap (chain ends' links') e ∙ chain_own) ∙ own k e
        | inr e ↦ ap (λ c. find_in (at items) k c None) (chain_other (bucket_of (length ends) k) (bucket_below (length ends) k h.some) e)
            ∙ (sym (get-keys_of ends links items h k) ∙ other k e)
      ])
      slots

-- ---- at the value that callers see
module _ (ends : List ChainLink) (links : List (List ChainLink)) (items : List (List (Option PlainItem))) (h : IsChained ends links items) (v : PlainIndex) (e : index_of ends links items ≡ v) where
  pub content_is : made items ≡ v.content
  unfolding index_of
  content_is = ap (λ (w : PlainIndex). w.content) e

  pub item_is : (x : ChunkRef) → fin.get v.content x ≡ at items x
  item_is x = ap (λ m. fin.get m x) (sym content_is) ∙ get-made items x

  pub keys_are : keys_of ends links items ≡ v.keys
  unfolding index_of
  keys_are = ap (λ (w : PlainIndex). w.keys) e

  pub slots_are : map length items ≡ v.slots
  unfolding index_of
  slots_are = ap (λ (w : PlainIndex). w.slots) e

  pub find_is : (k : List ℕ) → find_in (at items) k (chain ends links (bucket_of (length ends) k)) None ≡ fin.get v.keys k
  find_is k = sym (get-keys_of ends links items h k) ∙ ap (λ m. fin.get m k) keys_are

pub none_pushed : (xs : List (Option PlainItem)) → AllNone xs → AllNone (xs ++ None ∷ [])
none_pushed [] h zero = refl
none_pushed [] h (suc s) = refl
none_pushed (x ∷ xs) h zero = h zero
none_pushed (x ∷ xs) h (suc s) = none_pushed xs (λ t. h (suc t)) s

-- ---- going along a chain
-- from the place a path leads to an end
pub record Leads (ends : List ChainLink) (links : List (List ChainLink)) (p : ChainPlace) : Type 0 where
  pub xs : List ChunkRef
  pub e : Bucket
  pub path : Path (next_in ends links) (previous_in ends links) p xs (End e)

module _ (ends : List ChainLink) (links : List (List ChainLink)) (b : Bounded links) where
  trail_of : (p : ChainPlace) (h : Leads ends links p) → trail ends links p ≡ h.xs
  trail_of p h = trail_is ends links b p h.xs h.e h.path

  pub trail_step : (p : ChainPlace) (link : ChainLink) (m : ChunkRef) → Leads ends links p → link_at ends links p ≡ Some link → link.next ≡ At m
      → Leads ends links (At m) × (trail ends links p ≡ m ∷ trail ends links (At m))
  trail_step p link m h e u = go h.xs h.path refl
    where
      v : next_in ends links p ≡ Some link.next
      v = ap (option_map (λ (l : ChainLink). l.next)) e

      go : (xs : List ChunkRef) → Path (next_in ends links) (previous_in ends links) p xs (End h.e) → h.xs ≡ xs → Leads ends links (At m) × (trail ends links p ≡ m ∷ trail ends links (At m))
      go [] k q = let w = k.onward in cc
      go (x ∷ xs) k q =
          let w = k.0.onward in
          let same : x ≡ m = cc in
          let k' : Path (next_in ends links) (previous_in ends links) (At m) xs (End h.e) = subst (λ z. Path (next_in ends links) (previous_in ends links) (At z) xs (End h.e)) same k.1 in
          let next : Leads ends links (At m) = record { xs = xs; e = h.e; path = k' } in
          let t : trail ends links (At m) ≡ xs = trail_of (At m) next in
          (next, trail_of p h ∙ (q ∙ (ap (λ z. z ∷ xs) same ∙ ap (λ zs. m ∷ zs) (sym t))))

  pub trail_end : (p : ChainPlace) (link : ChainLink) (d : Bucket) → Leads ends links p → link_at ends links p ≡ Some link → link.next ≡ End d → trail ends links p ≡ []
  trail_end p link d h e u = trail_of p h ∙ go h.xs h.path
    where
      v : next_in ends links p ≡ Some link.next
      v = ap (option_map (λ (l : ChainLink). l.next)) e

      go : (xs : List ChunkRef) → Path (next_in ends links) (previous_in ends links) p xs (End h.e) → xs ≡ []
      go [] k = refl
      go (x ∷ xs) k = let w = k.0.onward in cc

pub leads_there : (ends : List ChainLink) (links : List (List ChainLink)) (p : ChainPlace) → Leads ends links p → IsSome (link_at ends links p)
leads_there ends links p h = some_at_next ends links p _ (first_step (next_in ends links) (previous_in ends links) p h.xs (End h.e) h.path).1.onward

-- the search from a place on is the search along the bucket's chain
pub record Seeks (ends : List ChainLink) (links : List (List ChainLink)) (items : List (List (Option PlainItem))) (b : ℕ) (k : List ℕ) (p : ChainPlace) : Type 0 where
  pub leads : Leads ends links p
  pub same : find_in (at items) k (trail ends links p) None ≡ find_in (at items) k (chain ends links b) None

module _ (ends : List ChainLink) (links : List (List ChainLink)) (items : List (List (Option PlainItem))) (h : IsChained ends links items) (b : Bucket) (l : b.number < length ends) (k : List ℕ) where
  pub seek_init : Seeks ends links items b.number k (End b)
  seek_init = record { leads = record { xs = chain ends links b.number; e = b; path = h.ring b l }; same = refl }

  module _ (p : ChainPlace) (s : Seeks ends links items b.number k p) (link : ChainLink) (is : link_at ends links p ≡ Some link) where
    pub seek_end : (d : Bucket) → link.next ≡ End d → None ≡ find_in (at items) k (chain ends links b.number) None
    seek_end d u = ap (λ t. find_in (at items) k t None) (sym (trail_end ends links (bounded ends links items h) p link d s.leads is u)) ∙ s.same

    module _ (m : ChunkRef) (u : link.next ≡ At m) where
      step : Leads ends links (At m) × (trail ends links p ≡ m ∷ trail ends links (At m))
      step = trail_step ends links (bounded ends links items h) p link m s.leads is u

      pub seek_found : is_named k (at items m) ≡ true → Some m ≡ find_in (at items) k (chain ends links b.number) None
      seek_found t =
          sym (ap (λ c. cond c (Some m) (find_in (at items) k (trail ends links (At m)) None)) t)
          ∙ (ap (λ z. find_in (at items) k z None) (sym step.1) ∙ s.same)

      pub seek_smaller : length (trail ends links (At m)) < length (trail ends links p)
      seek_smaller = let q = ap length step.1 in omega arith

      pub seek_more : is_named k (at items m) ≡ false → Seeks ends links items b.number k (At m)
      seek_more t = record {
        leads = step.0;
        same = sym (ap (λ c. cond c (Some m) (find_in (at items) k (trail ends links (At m)) None)) t)
            ∙ (ap (λ z. find_in (at items) k z None) (sym step.1) ∙ s.same);
      }
