-- What was read of a data block.
-- Rule of memcached: so many bytes and what ends them.
-- Rule of this project: what was taken where a fault came.
use Rattle.std.specs.Prelude.{◌≡◌, ◌≢◌, ◌<◌, ◌≤◌, ◌+◌, ◌⊎◌, ℕ, Bool, true, false, List, length, take, drop}
use Rattle.rev_script.specs.ByteReader.{PlainReader, Took, Broke, AtEnd}
use Rattle.rev_script.specs.Script.{is_ending, ending_size}
use Rattle.rev_script.specs.declared.dialect.Dialect.{Dialect}
use Rattle.rev_script.specs.declared.byte_reader.LineFault.{LineFault}
use Rattle.rev_script.specs.declared.byte_reader.LineFault.TheVariants as faults

-- these bytes were taken: n of them, or fewer before the end
pub record IsTaken (old new : PlainReader) (n : ℕ) (all : Bool) (taken : List ℕ) : Type 0 where
  pub took : Took old new taken
  pub all_of : all ≡ true → length taken ≡ n
  pub short : all ≡ false → (length taken < n) × AtEnd new

-- at most n bytes were taken, and then a fault came
pub record IsShort (old new : PlainReader) (n : ℕ) (e : LineFault) : Type 0 where
  pub taken : List ℕ
  pub broke : Broke old new taken e
  pub short : length taken ≤ n

-- a fault came before all was taken that ends a block
pub record IsUnended (d : Dialect) (old new : PlainReader) (e : LineFault) : Type 0 where
  pub taken : List ℕ
  pub broke : Broke old new taken e
  pub short : length taken < ending_size d taken

-- a fault came before a data block of so many bytes was taken whole (at Memory perhaps it was)
pub record IsBroken (d : Dialect) (old new : PlainReader) (size : ℕ) (e : LineFault) : Type 0 where
  pub taken : List ℕ
  pub broke : Broke old new taken e
  pub short : e ≢ faults.Memory → length taken < size + ending_size d (drop size taken)

-- the bytes were taken that tell whether a block ends here, or fewer before the end
pub record IsEnding (d : Dialect) (old new : PlainReader) (sound : Bool) : Type 0 where
  pub taken : List ℕ
  pub took : Took old new taken
  pub size_is : (length taken ≡ ending_size d taken) ⊎ ((length taken < ending_size d taken) × AtEnd new)
  pub sound_is : sound ≡ is_ending d taken

-- a data block was taken, or what there is of it before the end
pub record IsBlock (d : Dialect) (old new : PlainReader) (size : ℕ) (sound : Bool) (data_is : List ℕ) : Type 0 where
  pub block : List ℕ
  pub took : Took old new block
  pub size_is : (length block ≡ size + ending_size d (drop size block)) ⊎ ((length block < size + ending_size d (drop size block)) × AtEnd new)
  pub sound_is : sound ≡ is_ending d (drop size block)
  pub kept : size ≤ 1048576 → sound ≡ true → data_is ≡ take size block
