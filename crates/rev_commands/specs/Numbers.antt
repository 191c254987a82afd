-- The number that an item's data are.
-- Rule of memcached: incr and decr take data that are a decimal number of 64 bits.
use Rattle.std.specs.Prelude.{ℕ, cond, List, Option, None, Some}
use Rattle.rev_model.specs.Client.{is_number, digits_from}

-- none where the data are not 1 to 20 digits of at most 64 bits
abbrev pub number_in : List ℕ → Option ℕ
number_in bs = cond (is_number bs) (Some (digits_from 0 bs)) None
