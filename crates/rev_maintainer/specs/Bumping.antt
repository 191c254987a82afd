-- What a bump finds, and how many moves it makes.
-- Rule of memcached: an item of COLD that was hit goes to the head of WARM (new_lru.txt).
-- Rule of this project: an entry asks for its item by chunk and cas number, and does nothing where that is gone.
use Rattle.std.specs.Prelude.{ℕ, Bool, false, cond, ◌&&◌, List, [], ◌∷◌, Option, None, Some, nat_eq}
use Rattle.rev_items.specs.Plain.{PlainItem}
use Rattle.rev_model.specs.Chunk.{same_entry}
use Rattle.rev_model.specs.Lists.{has}
use Rattle.rev_model.specs.State.{State, queue_of, owner_of, item_at}
use Rattle.rev_model.specs.Words.{counted, headed, with_item, header_of}
use Rattle.rev_model.specs.declared.BumpEntry.{BumpEntry}
use Rattle.rev_model.specs.declared.ChunkRef.{ChunkRef}
use Rattle.rev_model.specs.declared.Counter.TheVariants.{MovesToWarm}
use Rattle.rev_model.specs.declared.Entry.TheVariants.{Chunk}
use Rattle.rev_model.specs.declared.ItemHeader.{ItemHeader}
use Rattle.rev_model.specs.declared.Queue.TheVariants.{Warm, Cold}

-- the item has the entry's cas number, is ACTIVE and stands in COLD
abbrev pub is_asked : State → BumpEntry → PlainItem → Bool
is_asked s b i = nat_eq i.cas b.cas && (i.bits.active && has same_entry (Chunk b.chunk) (queue_of s (owner_of s b.chunk.page) Cold))

-- what is read of that item
abbrev pub asked_item : State → BumpEntry → Option PlainItem → Option ItemHeader
asked_item s b None = None
asked_item s b (Some i) = cond (is_asked s b i) (Some (header_of i)) None

-- the item that the entry asks for
abbrev pub asked : State → BumpEntry → Option ItemHeader
asked s b = asked_item s b (item_at s b.chunk)

-- one move for the entry, four for the item
abbrev pub entry_need : Option ItemHeader → ℕ
entry_need None = 1
entry_need (Some g) = 5

-- the moves of a bump, by the bump queue
abbrev pub need_from : State → List BumpEntry → ℕ
need_from s [] = 0
need_from s (b ∷ bs) = entry_need (asked s b)

-- the entry is taken out by a move, and an item is lifted by four
abbrev pub bump_need : State → ℕ
bump_need s = need_from s s.bump

-- ACTIVE is cleared, the time is now, and the item goes from COLD to WARM's head
abbrev pub bumped : ℕ → ChunkRef → PlainItem → State → State
bumped c x i s = counted c MovesToWarm (with_item x (record i { bits = record i.bits { active = false }; time = s.globals.clock }) (headed c Cold Warm x s))
