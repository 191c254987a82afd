-- What a store's parts keep beside the plain state.
-- Rule of this project: pages, queues and index speak of the same slots, and a queue counts the bytes of the items
-- that stand in it.
use Rattle.std.specs.Prelude.{ℕ, ◌≡◌, ◌≤◌, ◌+◌, [], length, slice_index, slice_index_or}
use Rattle.rev_links.specs.Rings.{In}
use Rattle.rev_model.specs.State.{Fixed, per_page}
use Rattle.rev_model.specs.Words.{weight}
use Rattle.rev_pages.specs.State.{PagesState}
use Rattle.rev_queues.specs.Entries.{Queued}
use Rattle.rev_queues.specs.QueueState.{QueuesState}
use Rattle.rev_index.specs.Index.{PlainIndex}

-- the parts of a store fit one another, where the bump queue has this capacity
pub record Fitted (f : Fixed) (pages : PagesState) (queues : QueuesState) (index : PlainIndex) (capacity : ℕ) : Type 0 where
  -- there is room for every page that may be made, and each page has the slots of its class in each part
  pub table : length pages.slots ≡ f.limit + 62
  pub slots : (p : ℕ) → slice_index pages.slots p ≡ per_page f (slice_index pages.owner p)
  pub in_queues : queues.slots ≡ pages.slots
  pub in_index : index.slots ≡ pages.slots
  -- each entry of a queue counts the bytes of the chunk's item
  pub told : (p : ℕ) (e : Queued) → In e (slice_index_or queues.queues p []) → e.footprint ≡ weight index.content e.entry
  -- the bump queue has its room
  pub bump : f.bump_room ≤ capacity
  pub limit : f.limit ≤ 4096
