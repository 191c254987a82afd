-- What a class table shows, and what holds of each.
-- Rule of this project: what every table of classes keeps, whatever configuration it was made from.
use Rattle.std.specs.Prelude.{ℕ, ◌-◌, ◌<◌, ◌≤◌, ◌≡◌, List, length, slice_index}

-- the page size in bytes, and the chunk sizes of the classes from 1 on
pub record PlainTable : Type 0 where
  pub page_size : ℕ
  pub sizes : List ℕ

-- 1 to 62 sizes, none under 96 bytes, which do not fall, and the last is the whole page
pub record AreClassSizes (page : ℕ) (sizes : List ℕ) : Type 0 where
  pub some : 1 ≤ length sizes
  pub few : length sizes ≤ 62
  pub page_some : 256 ≤ page
  pub page_most : page ≤ 1048576
  pub least : (i : ℕ) → i < length sizes → 96 ≤ slice_index sizes i
  pub most : (i : ℕ) → i < length sizes → slice_index sizes i ≤ page
  pub rising : (i j : ℕ) → i ≤ j → j < length sizes → slice_index sizes i ≤ slice_index sizes j
  pub last : slice_index sizes (length sizes - 1) ≡ page
