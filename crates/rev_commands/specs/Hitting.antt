-- How many moves a hit takes.
-- Rule of this project: memory for them is taken before the first.
use Rattle.std.specs.Prelude.{ℕ, ◌+◌, cond, List, Option, None, Some}
use Rattle.rev_items.specs.Plain.{PlainItem}
use Rattle.rev_items.specs.declared.Bits.{Bits}
use Rattle.rev_model.specs.State.{State, item_at, find}
use Rattle.rev_model.specs.Words.{is_dead}
use Rattle.rev_model.specs.declared.ChunkRef.{ChunkRef}

-- none where ACTIVE is set; two where FETCHED is, and else one
abbrev pub hit_need : Bits → ℕ
hit_need b = cond b.active 0 (cond b.fetched 2 1)

-- a command that hits an item and then makes so many moves more; a dead item is removed
abbrev pub read_need : ℕ → State → Option PlainItem → ℕ
read_need more s None = 0
read_need more s (Some i) = cond (is_dead s.globals i) 4 (hit_need i.bits + more)

-- the same by the chunk of the key
abbrev pub led_need : ℕ → State → Option ChunkRef → ℕ
led_need more s None = 0
led_need more s (Some x) = read_need more s (item_at s x)

-- the same by the key
abbrev pub access_need : ℕ → State → List ℕ → ℕ
access_need more s k = led_need more s (find s k)
