-- Which bytes are a key.
-- Rule of memcached: 1 to 250 bytes, none of them a space or a control byte.
use Rattle.std.specs.Prelude.{ℕ, Bool, true, ◌&&◌, ◌==◌, not, nat_lt, nat_le, List, length, ◌≡◌}
use Rattle.std.specs.List.{list_all}

-- none of 0 to 32, nor 127
abbrev pub is_key_byte : ℕ → Bool
is_key_byte b = nat_lt 32 b && not (b == 127)

-- 1 to 250 such bytes
abbrev pub is_key : List ℕ → Bool
is_key bytes = nat_lt 0 (length bytes) && (nat_le (length bytes) 250 && list_all is_key_byte bytes)

-- the same as a fact
abbrev pub IsKey : List ℕ → Type 0
IsKey bytes = is_key bytes ≡ true
