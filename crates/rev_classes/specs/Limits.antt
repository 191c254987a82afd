-- Which configurations a store can be opened with.
-- Rule of this project: the bounds of each option, and which fault is told first.
use Rattle.std.specs.Prelude.{ℕ, ◌*◌, ◌%◌, Bool, cond, not, ◌&&◌, nat_eq, nat_lt, nat_le, List, length, Option, None, Some, ◌≡◌}
use Rattle.rev_classes.specs.Sizes.{most_classes, sizes_of}
use Rattle.rev_classes.specs.declared.Config.{Config}
use Rattle.rev_classes.specs.declared.ConfigFault.{ConfigFault}
use Rattle.rev_classes.specs.declared.ConfigFault.TheVariants.{BadPage, BadFactor, TooManyClasses, BadLimit}

-- from the least to the most
abbrev pub is_within : (least most n : ℕ) → Bool
is_within least most n = nat_le least n && nat_le n most

-- 256 bytes to 1 MiB, a multiple of 8
abbrev pub is_page_size : ℕ → Bool
is_page_size n = is_within 256 1048576 n && nat_eq (n % 8) 0

-- both parts 1 to 1000, and num / den from 21/20 to 4
abbrev pub is_growth_factor : (num den : ℕ) → Bool
is_growth_factor num den = is_within 1 1000 num && (is_within 1 1000 den && (nat_le (21 * den) (20 * num) && nat_le num (4 * den)))

-- 1 to 4096 pages, a bump queue of 1 to 4096 entries, 2^4 to 2^20 buckets, and a clock that is not 0
abbrev pub are_limits : Config → Bool
are_limits c = is_within 1 4096 c.pages && (is_within 1 4096 c.bump && (is_within 4 20 c.hash_power && nat_le 1 c.now))

-- the chunk sizes of the classes from 1 on
abbrev pub class_sizes : Config → List ℕ
class_sizes c = sizes_of c.page_size c.num c.den

-- the first limit that the configuration breaks
abbrev pub fault_of : Config → Option ConfigFault
fault_of c =
    cond (not (is_page_size c.page_size)) (Some BadPage)
    (cond (not (is_growth_factor c.num c.den)) (Some BadFactor)
    (cond (nat_lt most_classes (length (class_sizes c))) (Some TooManyClasses)
    (cond (not (are_limits c)) (Some BadLimit) None)))

-- the configuration breaks no limit
abbrev pub IsWithinLimits : Config → Type 0
IsWithinLimits c = fault_of c ≡ None
