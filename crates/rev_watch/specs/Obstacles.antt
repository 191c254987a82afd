-- Under which settings of a server other keys leave than the rules of lrudb say.
-- Rule of memcached: what its settings mean (`stats settings`, protocol.txt), and which items lie in several chunks.
-- Rule of this project: which settings are obstacles, and that extstore is told by its two bounds, since the settings
-- name no file of it.
use Rattle.std.specs.Prelude.{ℕ, Bool, ◌||◌, not, nat_lt, if◌then◌else◌, List, [], ◌∷◌, Option, None, Some}
use Rattle.rev_watch.specs.declared.obstacles.Obstacle.{Obstacle}
use Rattle.rev_watch.specs.declared.obstacles.Obstacle.TheVariants.{NoEvictions, Extstore, NoMaintainer, NotSegmented}
use Rattle.rev_watch.specs.declared.settings.Replacement.{Replacement}
use Rattle.rev_watch.specs.declared.settings.Settings.{Settings}

-- items may go to files: extstore has a bound above 0
abbrev pub has_extstore : Replacement → Bool
has_extstore r = nat_lt 0 r.ext_compact_under || nat_lt 0 r.ext_drop_under

-- an obstacle, where it stands in the way
abbrev pub where_true : Bool → Obstacle → Option Obstacle
where_true stands obstacle = if stands then Some obstacle else None

-- the obstacles that settings show by themselves
abbrev pub obstacles : Settings → List (Option Obstacle)
obstacles s =
    where_true (not s.replacement.evictions) NoEvictions
    ∷ where_true (has_extstore s.replacement) Extstore
    ∷ where_true (not s.replacement.lru_maintainer) NoMaintainer
    ∷ where_true (not s.replacement.lru_segmented) NotSegmented
    ∷ []

-- an item of so many bytes, header, key and data together, lies in several chunks
abbrev pub is_chunked : Settings → ℕ → Bool
is_chunked s size = nat_lt s.slab_chunk_max size
