-- What a contract sees of a writer whose bytes wait until they are sent.
-- Rule of this project: what was written and what was sent are told apart, and a write that failed is remembered.
use Rattle.std.specs.Prelude.{ℕ, Bool, true, false, List, [], Option, None, Some}
use Rattle.std.specs.Io.KnownBytes.{append_known}

-- the writer that is lent, and what waits for it
pub record PlainOutbox : Type 0 where
  pub first : Option (List ℕ)  -- the bytes that it held at first, where they are known
  pub sent : Option (List ℕ)  -- the bytes that it holds now, where they are known
  pub unsent : List ℕ  -- the bytes that wait
  pub failures : ℕ  -- how many writes failed, counted modulo 2 ^ 64
  pub has_failed : Bool  -- whether a write failed, or bytes that waited could not be sent
  pub writer : ℕ  -- which writer it is: its ghost name

-- where it was known what the writer held at first, it is known ever after
abbrev pub is_followed : Option (List ℕ) → Option (List ℕ) → Bool
is_followed None now = true
is_followed (Some bytes) None = false
is_followed (Some bytes) (Some more) = true

-- these bytes, where it was known what the writer held at first
abbrev pub known_since : Option (List ℕ) → Option (List ℕ) → Option (List ℕ)
known_since None bytes = None
known_since (Some first) bytes = bytes

-- what was written, the bytes that wait too
abbrev pub contents : PlainOutbox → Option (List ℕ)
contents o = known_since o.first (append_known o.sent o.unsent)

-- nothing waits for this writer, which holds these bytes, and nothing has failed
abbrev pub outbox_at : Option (List ℕ) → ℕ → PlainOutbox
outbox_at bytes writer = record { first = bytes; sent = bytes; unsent = []; failures = 0; has_failed = false; writer = writer }
