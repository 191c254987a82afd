-- The options whose values are numbers of the configuration.
-- Rule of this project: their names, and their ranges in words.
use Rattle.std.specs.Prelude.{ℕ, List, codes}
use Rattle.rev_options.specs.declared.number.Number.{Number}
use Rattle.rev_options.specs.declared.number.Number.TheVariants.{PageSize, Pages, Num, Den, Bump, HashPower, Now}

-- an option without its two dashes
abbrev pub name_of : Number → List ℕ
name_of PageSize = codes "page-size"
name_of Pages = codes "pages"
name_of Num = codes "num"
name_of Den = codes "den"
name_of Bump = codes "bump"
name_of HashPower = codes "hash-power"
name_of Now = codes "now"

-- what it is, and its range
abbrev pub help_of : Number → List ℕ
help_of PageSize = codes "Bytes of a slab page: 256 to 1048576, a multiple of 8"
help_of Pages = codes "Pages before classes that own one have to evict: 1 to 4096"
help_of Num = codes "Growth factor of chunk sizes, numerator: 1 to 1000, the factor 21/20 to 4"
help_of Den = codes "Growth factor of chunk sizes, denominator: 1 to 1000"
help_of Bump = codes "Entries that the bump queue of COLD items holds: 1 to 4096"
help_of HashPower = codes "The index has 2 to this power buckets: 4 to 20"
help_of Now = codes "Where the clock starts: 1 to 4294967295"
