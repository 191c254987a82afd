-- The rules on one item: its size, when it expires, and when it is dead.
-- Rule of memcached: how an expiry time is read, and that an item past it, or flushed, is dead.
-- Rule of this project: a header of 56 bytes, and that a flush covers items by their cas numbers.
use Rattle.std.specs.Prelude.{ℕ, ℤ, pos, negsuc, ◌+◌, Bool, cond, not, ◌&&◌, ◌||◌, length, nat_eq, nat_le}
use Rattle.rev_items.specs.Plain.{PlainItem}

-- the bytes that an item takes of its chunk: a header of 56, the key and a byte behind it, four bytes of flags where
-- they are not 0, and the data with the CR LF behind them
abbrev pub footprint : (key_length flags data_length : ℕ) → ℕ
footprint key_length flags data_length = 56 + key_length + 1 + cond (nat_eq flags 0) 0 4 + data_length + 2

-- the same of an item
abbrev pub footprint_of : PlainItem → ℕ
footprint_of i = footprint (length i.key) i.flags (length i.value)

-- the moment at which an item expires: 0 is never, a negative time is long past, up to thirty days count from now, and
-- more is the moment itself
abbrev pub moment : ℕ → ℤ → ℕ
moment now (pos n) = cond (nat_eq n 0) 0 (cond (nat_le n 2592000) (now + n) n)
moment now (negsuc n) = 1

-- dead: the item has expired by the clock, or was linked no later than the last flush
abbrev pub is_past : (clock limit moment cas : ℕ) → Bool
is_past clock limit moment cas = (not (nat_eq moment 0) && nat_le moment clock) || nat_le cas limit
