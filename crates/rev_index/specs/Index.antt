-- The items of chunks and the chunk of each key, as two finite maps; and when the chains stand for them.
-- Rule of this project: an index is seen as its two maps; no bucket is seen above it.
use Rattle.std.specs.Prelude.{◌≡◌, ℕ, zero, suc, ◌<◌, ◌≤◌, ◌^◌, Bool, true, false, cond, Option, Some, None, List, [], ◌∷◌, ◌++◌, length, map as map_list, slice_index, slice_index_or, slice_get, replicate}
use Rattle.std.specs.Ordering.{nat_cmp, eq_by_cmp}
use Rattle.std.specs.Cmp.Lexicographic.{slice_cmp}
use Rattle.std.specs.FinMap as map
use Rattle.rev_links.specs.declared.places.RingPlace.TheVariants.{End}
use Rattle.rev_links.specs.Rings.{Path, In}
use Rattle.rev_items.specs.Plain.{PlainItem}
use Rattle.rev_model.specs.State.{Contents, Keys}
use Rattle.rev_model.specs.declared.ChunkRef.{ChunkRef}
use Rattle.rev_index.specs.Made.{made, at}
use Rattle.rev_index.specs.declared.chains.Bucket.{Bucket}
use Rattle.rev_index.specs.Chains.{ChainLink, next_in, previous_in, chain, bucket_of}

-- what callers see
pub record PlainIndex : Type 0 where
  -- chunk to item
  pub content : Contents
  -- key to chunk
  pub keys : Keys
  -- page to the number of its slots
  pub slots : List ℕ

-- with the item's key bound to the chunk, and without it
abbrev pub bound : ChunkRef → Option PlainItem → Keys → Keys
bound x None m = m
bound x (Some i) m = map.insert m i.key x

-- without the key of the item
abbrev pub unbound : Option PlainItem → Keys → Keys
unbound None m = m
unbound (Some i) m = map.remove m i.key

-- the keys of the items of these chunks, over a map
abbrev pub bound_all : (ChunkRef → Option PlainItem) → List ChunkRef → Keys → Keys
bound_all item [] m = m
bound_all item (x ∷ xs) m = bound x (item x) (bound_all item xs m)

-- the same for the first n buckets
abbrev pub bound_below : (ℕ → List ChunkRef) → (ChunkRef → Option PlainItem) → ℕ → Keys
bound_below chain item zero = map.empty
bound_below chain item (suc n) = bound_all item (chain n) (bound_below chain item n)

-- the chunks of the first n buckets, those of the last bucket first
abbrev pub members_below : (ℕ → List ChunkRef) → ℕ → List ChunkRef
members_below chain zero = []
members_below chain (suc n) = chain n ++ members_below chain n

-- the chunks of all buckets
abbrev pub members : List ChainLink → List (List ChainLink) → List ChunkRef
members ends links = members_below (chain ends links) (length ends)

-- each of these chunks has an item whose key is neither in the map nor that of a chunk behind it
abbrev pub AreNew : (ChunkRef → Option PlainItem) → Keys → List ChunkRef → Type 0
AreNew item m [] = Unit {0}
AreNew item m (x ∷ xs) = ((i : PlainItem) × (item x ≡ Some i) × (map.get (bound_all item xs m) i.key ≡ None)) × AreNew item m xs

-- the chunk of each key
unfoldable pub keys_of : List ChainLink → List (List ChainLink) → List (List (Option PlainItem)) → Keys
keys_of ends links items = bound_below (chain ends links) (at items) (length ends)

-- the value of an index: the items of its slots, the keys of its chains, and how many slots each page has
unfoldable pub index_of : List ChainLink → List (List ChainLink) → List (List (Option PlainItem)) → PlainIndex
index_of ends links items = record { content = made items; keys = keys_of ends links items; slots = map_list length items }

-- the item has this key
abbrev pub is_named : List ℕ → Option PlainItem → Bool
is_named k None = false
is_named k (Some i) = eq_by_cmp (slice_cmp nat_cmp) k i.key

-- the first of these chunks whose item has the key, or else another answer
abbrev pub find_in : (ChunkRef → Option PlainItem) → List ℕ → List ChunkRef → Option ChunkRef → Option ChunkRef
find_in item k [] o = o
find_in item k (x ∷ xs) o = cond (is_named k (item x)) (Some x) (find_in item k xs o)

-- there is an item, and its key's bucket is b of n
abbrev pub IsHome : ℕ → ℕ → Option PlainItem → Type 0
IsHome n b None = ⊥
IsHome n b (Some i) = bucket_of n i.key ≡ b

-- the chains stand for a map of keys
pub record IsChained (ends : List ChainLink) (links : List (List ChainLink)) (items : List (List (Option PlainItem))) : Type 0 where
  -- each bucket's chain runs in both directions
  pub ring : (b : Bucket) → b.number < length ends → Path (next_in ends links) (previous_in ends links) (End b) (chain ends links b.number) (End b)
  -- each chunk in a chain has an item whose key belongs there
  pub home : (b : ℕ) (x : ChunkRef) → b < length ends → In x (chain ends links b) → IsHome (length ends) b (at items x)
  -- no two have one key
  pub alone : (b : ℕ) (x y : ChunkRef) (k : List ℕ) → b < length ends → In x (chain ends links b) → In y (chain ends links b) → is_named k (at items x) ≡ true → is_named k (at items y) ≡ true → x ≡ y
  -- there are buckets, and their numbers fit
  pub some : 0 < length ends
  pub few : length ends ≤ 2 ^ 20
  -- a slot for a link is a slot for an item
  pub same_sizes : map_list length links ≡ map_list length items
  -- pages and slots have numbers below 65536
  pub pages : length links ≤ 65536
  pub slots_below : (p : ℕ) → slice_index (map_list length links) p ≤ 65536

-- no slot has an item
abbrev pub AllNone : List (Option PlainItem) → Type 0
AllNone items = (s : ℕ) → slice_index_or items s None ≡ None

-- the slots of a page that is not laid
pub record AreFree (items : List (Option PlainItem)) (links : List ChainLink) : Type 0 where
  pub same : length links ≡ length items
  pub none : AllNone items
  pub few : length items ≤ 65536

-- each bucket's end stands before and behind itself
abbrev pub AreEmpty : List ChainLink → Type 0
AreEmpty ends = (b : ℕ) → b < length ends → slice_get ends b ≡ Some (record { previous = End (record { number = b }); next = End (record { number = b }) })

-- no items, no keys, and so many pages without slots
abbrev pub empty_index : ℕ → PlainIndex
empty_index pages = record { content = map.empty; keys = map.empty; slots = replicate pages 0 }
