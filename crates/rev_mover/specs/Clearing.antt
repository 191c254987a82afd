-- What the mover does with the chunk that it comes to.
-- Rule of memcached: a dead item is freed; a live one is rescued to a free chunk of its class, or else evicted.
-- Rule of this project: how many moves that takes.
use Rattle.std.specs.Prelude.{ℕ, cond, Option, None, Some}
use Rattle.rev_items.specs.Plain.{PlainItem}
use Rattle.rev_model.specs.State.{State, free_of}
use Rattle.rev_model.specs.Words.{is_dead}
use Rattle.rev_model.specs.Actor.{spare}
use Rattle.rev_model.specs.declared.ChunkRef.{ChunkRef}
use Rattle.rev_mover.specs.declared.clearing.Plan.{Plan}
use Rattle.rev_mover.specs.declared.clearing.Plan.TheVariants.{Withdraw, Reclaim, Rescue, Evict}

-- of a live item: it goes to the spare chunk, if there is one
abbrev pub rescue_or_evict : Option ChunkRef → Plan
rescue_or_evict None = Evict
rescue_or_evict (Some y) = Rescue y

-- of a chunk of class c, by what it holds
abbrev pub clearing_of : State → ℕ → ChunkRef → Option PlainItem → Plan
clearing_of s c x None = Withdraw
clearing_of s c x (Some i) = cond (is_dead s.globals i) Reclaim (rescue_or_evict (spare x.page (free_of s c)))

-- the moves it takes, the mover's to the next slot among them
abbrev pub clearing_moves : Plan → ℕ
clearing_moves Withdraw = 2
clearing_moves Reclaim = 5
clearing_moves (Rescue y) = 3
clearing_moves Evict = 5
