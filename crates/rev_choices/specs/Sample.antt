-- Sampling: all that is asked of some keys, and nothing of the others, in a cache that is as much smaller.
-- Rule of this project: one key of n is taken, by its hash; pages are n times smaller, in steps of 8 bytes.
use Rattle.std.specs.Prelude.{ℕ, ◌*◌, ◌/◌, ◌^◌, Bool, nat_lt, nat_le, if◌then◌else◌, List, Option, None, Some}
use Rattle.rev_items.specs.Hash.{hash_of}

-- a key is taken where its hash is in the first of n equal parts of all hashes
abbrev pub takes : ℕ → List ℕ → Bool
takes n key = nat_lt (hash_of key * n) (2 ^ 32)

-- the bytes of a page, none where they would be under 256
abbrev pub page_size : ℕ → ℕ → Option ℕ
page_size n bytes =
    if nat_le n 1 then Some bytes
    else (if nat_lt (bytes / n) 256 then None else Some (bytes / n / 8 * 8))
