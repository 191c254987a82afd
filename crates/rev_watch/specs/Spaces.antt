-- The places of the spaces in a text, from where the next word begins.
-- Rule of memcached: words are parted by single spaces.
use Rattle.std.specs.Prelude.{◌≡◌, ℕ, ◌≤◌, List, length}
use Rattle.memchr.specs.Find.{is_byte, places_between}

-- the next word begins at this place, and these are the places of all spaces (32) behind it
pub record IsAt (text : List ℕ) (from : ℕ) (spaces : List ℕ) : Type 0 where
  pub within : from ≤ length text
  pub places : spaces ≡ places_between (is_byte 32) text from (length text)
