-- What lrudb is opened with for a sample of a cache.
-- Rule of this project: one key of n has an n-th of the bytes. Pages stay whole as long as more than 512 of them are
-- left, which are 32 for each of 16 busy classes. Else they are smaller, and there are as many more, up to as many as the
-- cache has.
use Rattle.std.specs.Prelude.{ℕ, ◌+◌, ◌*◌, ◌/◌, nat_lt, if◌then◌else◌, Option, None, Some}
use Rattle.rev_choices.specs.Sample.{page_size}
use Rattle.rev_classes.specs.declared.Config.{Config}

-- how many times smaller pages leave more than 512 of them
abbrev pub enough : ℕ → ℕ → ℕ
enough n pages = 512 * n / pages + 1

-- how many times smaller the pages are, n times at most
abbrev pub shrunk : ℕ → ℕ → ℕ
shrunk n pages = if nat_lt (enough n pages) n then enough n pages else n

-- how many pages there are then
abbrev pub pages_left : ℕ → ℕ → ℕ
pages_left n pages = if nat_lt (enough n pages) n then pages * enough n pages / n else pages

-- a page has at least 256 bytes
abbrev pub at_least : Option ℕ → ℕ
at_least None = 256
at_least (Some bytes) = bytes

-- the configuration
abbrev pub sample_config : ℕ → Config → Config
sample_config n config = record {
  page_size = at_least (page_size (shrunk n config.pages) config.page_size);
  pages = pages_left n config.pages;
  num = config.num;
  den = config.den;
  bump = config.bump;
  hash_power = config.hash_power;
  temp_ttl = config.temp_ttl;
  now = config.now;
}
