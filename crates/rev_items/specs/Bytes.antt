-- Bytes in place or on the heap are the same bytes.
-- Rule of this project: where a key or data lie is seen nowhere above this crate.
use Rattle.std.specs.Prelude.{ℕ, List, length, take, drop, replicate, ◌-◌, ◌≡◌, ◌≤◌}
use Rattle.rev_items.specs.Hash.{hash_of}
use Rattle.rev_items.specs.declared.bytes.BytesPlace.{BytesPlace}
use Rattle.rev_items.specs.declared.bytes.BytesPlace.TheVariants.{Inline, Heap}

-- the bytes in a place
abbrev pub bytes_at : {A : Type 0} → BytesPlace A → List ℕ
bytes_at (Inline count _ bytes) = take count bytes
bytes_at (Heap _ bytes) = bytes.items

-- so many bytes in front, and zeros behind them, 24 in all
abbrev pub IsPadded : ℕ → List ℕ → Type 0
IsPadded count bytes = (count ≤ 24) × (length bytes ≡ 24) × (drop count bytes ≡ replicate (24 - count) 0)

-- what stands beside the bytes is their hash, and those in place are padded
abbrev pub IsPlaced : {A : Type 0} → BytesPlace A → Type 0
IsPlaced (Inline count hash bytes) = IsPadded count bytes × (hash ≡ hash_of (take count bytes))
IsPlaced (Heap hash bytes) = hash ≡ hash_of bytes.items
