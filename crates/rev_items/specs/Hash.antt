-- FNV-1a with 32 bits, by which keys are spread over buckets.
-- Rule of this project: its hash; no answer depends on it.
use Rattle.std.specs.Prelude.{ℕ, ◌*◌, ◌%◌, ◌^◌, List, fold}
use Rattle.std.specs.Int.Bits.{bit_xor}

-- one byte more
abbrev pub hash_step : ℕ → ℕ → ℕ
hash_step h byte = (bit_xor h byte * 16777619) % 2 ^ 32

-- from the offset basis on
unfoldable pub hash_of : List ℕ → ℕ
hash_of bytes = fold hash_step 2166136261 bytes
