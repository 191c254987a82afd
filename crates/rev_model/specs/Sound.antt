-- Sound stores, also with one chunk held aside by a step.
-- Rule of this project: what holds of a store between steps, so that no chunk, item or key is lost.
use Rattle.std.specs.Prelude.{ℕ, ◌≡◌, ◌+◌, ◌<◌, ◌≤◌, ◌≢◌, Bool, true, false, cond, ◌&&◌, List, Option, None, Some, length, slice_index, nat_eq, nat_lt, zero, suc}
use Rattle.std.specs.List.{sum_by}
use Rattle.std.specs.FinMap as map
use Rattle.rev_classes.specs.Table.{AreClassSizes}
use Rattle.rev_items.specs.Plain.{PlainItem}
use Rattle.rev_model.specs.Chunk.{same_chunk, same_entry}
use Rattle.rev_model.specs.Lists.{count, has}
use Rattle.rev_model.specs.declared.Queue.{Queue}
use Rattle.rev_model.specs.State.{State, Fixed, Contents, Keys, WellFormed, IsChunkOf, stands_in, per_page, queue_place, queue_of, item_at, find, stands}
use Rattle.rev_model.specs.Words.{class_of}
use Rattle.rev_items.specs.Rules.{footprint_of}
use Rattle.rev_model.specs.Actor.{owned_pages}
use Rattle.rev_model.specs.declared.ChunkRef.{ChunkRef}
use Rattle.rev_model.specs.declared.Entry.{Entry}
use Rattle.rev_model.specs.declared.Entry.TheVariants.{Chunk}
use Rattle.rev_model.specs.declared.Mover.{Mover}
use Rattle.rev_model.specs.declared.Settings.{Settings}

-- the mover has withdrawn the chunk
abbrev pub is_withdrawn : Option Mover → ChunkRef → Bool
is_withdrawn None x = false
is_withdrawn (Some m) x = nat_eq x.page m.page && nat_lt x.slot m.slot

-- a step holds the chunk
abbrev pub is_held : Option ChunkRef → ChunkRef → Bool
is_held None x = false
is_held (Some h) x = same_chunk x h

-- in how many ways the chunk is out of all lists: withdrawn, or held
abbrev pub away : Option Mover → Option ChunkRef → ChunkRef → ℕ
away m h x = cond (is_withdrawn m x) 1 0 + cond (is_held h x) 1 0

-- each chunk of an owned page stands in one list, or is withdrawn, or held
pub record EachPlaced (f : Fixed) (owner : List ℕ) (free : List (List ChunkRef)) (queues : List (List Entry)) (m : Option Mover) (h : Option ChunkRef) : Type 0 where
  pub once : (x : ChunkRef) → IsChunkOf f owner (slice_index owner x.page) x → stands_in free queues x + away m h x ≡ 1

-- a chunk with an item stands in a queue; the item's key leads to it, and its class is that of its footprint
pub record Filed (f : Fixed) (owner : List ℕ) (queues : List (List Entry)) (content : Contents) (index : Keys) : Type 0 where
  pub queued : (x : ChunkRef) (i : PlainItem) → map.get content x ≡ Some i → sum_by (count same_entry (Chunk x)) queues ≡ 1
  pub keyed : (x : ChunkRef) (i : PlainItem) → map.get content x ≡ Some i → map.get index i.key ≡ Some x
  pub class : (x : ChunkRef) (i : PlainItem) → map.get content x ≡ Some i → class_of f (footprint_of i) ≡ Some (slice_index owner x.page)

-- a page that is under way is one of at least two of its class, and goes to another class or to the pool
abbrev pub MoverSound : Fixed → List ℕ → Option Mover → Type 0
MoverSound f owner None = Unit {0}
MoverSound f owner (Some m) = (0 < m.src) × (m.src ≤ length f.sizes) × (m.dst ≤ length f.sizes) × (m.dst ≢ m.src) × (m.page < length owner) × (slice_index owner m.page ≡ m.src) × (m.slot ≤ per_page f m.src) × (2 ≤ owned_pages m.src owner)

-- how many of the classes below n own a page
abbrev pub owning : ℕ → List ℕ → ℕ
owning zero owner = 0
owning (suc c) owner = cond (nat_lt 0 (owned_pages (suc c) owner)) 1 0 + owning c owner

-- the settings are within the limits of `lru tune`
pub record SettingsSound (g : Settings) : Type 0 where
  pub hot : (1 ≤ g.hot_share) × (g.hot_share ≤ 79)
  pub warm : (1 ≤ g.warm_share) × (g.warm_share ≤ 79)
  pub both : g.hot_share + g.warm_share ≤ 80
  pub factors : (1 ≤ g.hot_factor) × (g.hot_factor ≤ 1000000) × (1 ≤ g.warm_factor) × (g.warm_factor ≤ 1000000)

-- the class table is one of a configuration within its limits
pub record TableSound (f : Fixed) : Type 0 where
  pub sizes : AreClassSizes f.page_size f.sizes
  pub limit : f.limit ≤ 4096
  pub bump : f.bump_room ≤ 4096

-- what no item speaks of: the mover, the number of pages, the settings, the class table
pub record Kept (f : Fixed) (owner : List ℕ) (m : Option Mover) (g : Settings) : Type 0 where
  pub mover : MoverSound f owner m
  pub pages : length owner ≤ f.limit + owning (length f.sizes) owner
  pub settings : SettingsSound g
  pub table : TableSound f

-- sound, but for the chunk h, which a step holds
pub record SoundBut (h : Option ChunkRef) (s : State) : Type 0 where
  pub well : WellFormed s
  pub placed : EachPlaced s.fixed s.owner s.free s.queues s.globals.mover h
  pub filed : Filed s.fixed s.owner s.queues s.content s.index
  pub kept : Kept s.fixed s.owner s.globals.mover s.globals.settings

-- sound between steps
abbrev pub Sound : State → Type 0
Sound s = SoundBut None s

-- the item of the chunk stands in this queue, and its key leads to it
pub record Stands (s : State) (c : ℕ) (q : Queue) (x : ChunkRef) (i : PlainItem) : Type 0 where
  pub place : queue_place c q < length s.queues
  pub class : c < length s.free
  pub there : has same_entry (Chunk x) (queue_of s c q) ≡ true
  pub item : item_at s x ≡ Some i
  pub key : find s i.key ≡ Some x

-- an unlinked chunk may go to the front of the free list
pub record Loose (s : State) (c : ℕ) (x : ChunkRef) : Type 0 where
  pub class : c < length s.free
  pub chunk : IsChunkOf s.fixed s.owner c x
  pub nowhere : stands s x ≡ 0
  pub empty : item_at s x ≡ None
