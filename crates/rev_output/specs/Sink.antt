-- What a write did.
-- Rule of this project: after a fault a front of the text was written, and failures are counted.
use Rattle.std.specs.Prelude.{◌≡◌, ℕ, ◌+◌, ◌%◌, Bool, true, false, ◌==◌, ◌&&◌, nat_lt, List, ◌++◌, Option, Result, Ok, Err}
use Rattle.std.specs.Io.KnownBytes.{Appends}

-- what a contract sees of a writer: the bytes that it holds, where they are known, and how many writes and flushes
-- failed, counted modulo 2 ^ 64
pub record PlainSink : Type 0 where
  pub contents : Option (List ℕ)
  pub failures : ℕ

-- a writer with these
abbrev pub sink_at : Option (List ℕ) → ℕ → PlainSink
sink_at contents failures = record { contents = contents; failures = failures }

-- an error, or no byte of some
abbrev pub failed_of : {E : Type 0} → Result ℕ E → ℕ → Bool
failed_of (Ok n) size = (n == 0) && nat_lt 0 size
failed_of (Err e) size = true

-- whether an error came
abbrev pub is_failed : {X E : Type 0} → Result X E → Bool
is_failed (Ok x) = false
is_failed (Err e) = true

-- one failure more, counted modulo 2 ^ 64: the count is never the same behind it
abbrev pub one_more : ℕ → ℕ
one_more n = (n + 1) % 18446744073709551616

-- the count behind a write or a flush
abbrev pub failures_after : Bool → ℕ → ℕ
failures_after false n = n
failures_after true n = one_more n

-- a front of the text was taken
abbrev pub WroteFront : Option (List ℕ) → Option (List ℕ) → List ℕ → Type 0
WroteFront old new text = (front : List ℕ) × (back : List ℕ) × Appends old new front × (front ++ back ≡ text)
