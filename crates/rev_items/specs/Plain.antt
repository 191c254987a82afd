-- An item without its allocator.
-- Rule of memcached: what an item is: key, data, flags, expiry, time, cas number, and the bits FETCHED and ACTIVE.
use Rattle.std.specs.Prelude.{ℕ, List}
use Rattle.rev_items.specs.declared.Bits.{Bits}
pub use Rattle.rev_items.specs.Keys.{IsKey, is_key, is_key_byte}

-- what a chunk holds: a key and its data, with the client's flags, the moment at which it expires (0: never), the
-- clock's second at which it was last linked or bumped, its cas number and its two bits
pub record PlainItem : Type 0 where
  pub key : List ℕ
  pub value : List ℕ
  pub flags : ℕ
  pub moment : ℕ
  pub time : ℕ
  pub cas : ℕ
  pub bits : Bits
