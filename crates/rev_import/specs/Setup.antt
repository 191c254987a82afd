-- What lrudb is opened with in the place of a server, and the first lines of its script.
-- Rule of memcached: what its settings mean (`stats settings`).
-- Rule of this project: the limits of lrudb, and what stands for a setting that is beyond them.
use Rattle.std.specs.Prelude.{ℕ, ℤ, pos, negsuc, ◌≡◌, ◌^◌, ◌/◌, ◌==◌, ◌&&◌, Bool, nat_lt, if◌then◌else◌, List, [], ◌∷◌, ◌++◌, Option, None, Some}
use Rattle.std.specs.Int.{IsGcd}
use Rattle.rev_classes.specs.Limits.{fault_of}
use Rattle.rev_classes.specs.declared.Config.{Config}
use Rattle.rev_classes.specs.declared.ConfigFault.{ConfigFault}
use Rattle.rev_classes.specs.declared.ConfigFault.TheVariants as faults
use Rattle.rev_requests.specs.Limits.{PlainTune, is_tune}
use Rattle.rev_requests.specs.declared.actors.ActorStep.TheVariants.{TempTtl}
use Rattle.rev_script.specs.Script.{ScriptLine, ActorLine, TuneLine}
use Rattle.rev_watch.specs.declared.settings.Settings.{Settings}
use Rattle.rev_choices.specs.declared.Factor.{Factor}
use Rattle.rev_import.specs.declared.setup.Unfollowed.{Unfollowed}
use Rattle.rev_import.specs.declared.setup.Unfollowed.TheVariants.{TooLittleMemory, TooMuchMemory, ChunkSize, ItemSizeMax, TooManyClasses, TemporaryTtl}
use Rattle.rev_import.specs.declared.setup.Unfollowed.TheVariants as unfollowed
use Rattle.rev_import.specs.declared.setup.Setup.{Setup}

-- ---- the first lines of a script

abbrev pub tune_lines : Option PlainTune → List ScriptLine
tune_lines None = []
tune_lines (Some t) = TuneLine t ∷ []

abbrev pub temp_ttl_lines : Option ℤ → List ScriptLine
temp_ttl_lines None = []
temp_ttl_lines (Some seconds) = ActorLine (TempTtl seconds) ∷ []

-- shares and age factors, and then the bound of TEMP, where they are asked for
abbrev pub setup_lines : Option PlainTune → Option ℤ → List ScriptLine
setup_lines tune seconds = tune_lines tune ++ temp_ttl_lines seconds

-- ---- memory: pages of 1048576 bytes, 1 to 4096 of them

abbrev pub pages_of : ℕ → ℕ
pages_of bytes =
    if nat_lt (bytes / 1048576) 1 then 1
    else (if nat_lt 4096 (bytes / 1048576) then 4096 else bytes / 1048576)

abbrev pub memory_unfollowed : ℕ → Option Unfollowed
memory_unfollowed bytes =
    if nat_lt (bytes / 1048576) 1 then Some TooLittleMemory
    else (if nat_lt 4096 (bytes / 1048576) then Some TooMuchMemory else None)

-- ---- the growth factor

-- so many thousandths in lowest terms
abbrev pub IsReduced : ℕ → Factor → Type 0
IsReduced n f = (g : ℕ) × IsGcd n 1000 g × (f ≡ record { num = n / g; den = 1000 / g })

-- the one that was given, or else the server's
abbrev pub IsWanted : ℕ → Option Factor → Factor → Type 0
IsWanted n None f = IsReduced n f
IsWanted n (Some given) f = f ≡ given

-- what is used where another one breaks a limit
abbrev pub usual_factor : Factor
usual_factor = record { num = 5; den = 4 }

-- ---- the configuration: what a server does not tell is as lrudb's command line has it

abbrev pub config_of : ℕ → Factor → ℤ → Config
config_of pages factor seconds = record {
  page_size = 1048576;
  pages = pages;
  num = factor.num;
  den = factor.den;
  bump = 64;
  hash_power = 10;
  temp_ttl = seconds;
  now = 1;
}

-- by the limit that the factor breaks, if it does
abbrev pub factor_by : Option ConfigFault → Factor → Factor
factor_by None factor = factor
factor_by (Some fault) factor = usual_factor

abbrev pub factor_unfollowed : Option ConfigFault → Option Unfollowed
factor_unfollowed None = None
factor_unfollowed (Some faults.TooManyClasses) = Some TooManyClasses
factor_unfollowed (Some fault) = Some unfollowed.Factor

-- the configuration with the factor, where it breaks no limit, and else with the usual one
abbrev pub opened_config : ℕ → Factor → ℤ → Config
opened_config pages factor seconds = config_of pages (factor_by (fault_of (config_of pages factor seconds)) factor) seconds

-- ---- shares and age factors, TEMP, chunks and items

-- the numbers that lrudb begins with: 20 and 40 per cent, and factors of 0.2 and 2
abbrev pub is_usual_tune : Settings → Bool
is_usual_tune s = (s.hot_share == 20) && (s.warm_share == 40) && (s.hot_factor == 200) && (s.warm_factor == 2000)

abbrev pub tune_of : Settings → Option PlainTune
tune_of s =
    if is_usual_tune s then None
    else (if is_tune s.hot_share s.warm_share s.hot_factor s.warm_factor
    then Some record { hot_share = s.hot_share; warm_share = s.warm_share; hot_factor = s.hot_factor; warm_factor = s.warm_factor }
    else None)

abbrev pub tune_unfollowed : Settings → Option Unfollowed
tune_unfollowed s =
    if is_usual_tune s then None
    else (if is_tune s.hot_share s.warm_share s.hot_factor s.warm_factor then None else Some unfollowed.Tune)

-- the seconds below which a time to live is short, at most 2147483647; none where TEMP is not in use
abbrev pub temp_ttl_of : Settings → Option ℤ
temp_ttl_of s =
    if s.temp_lru then (if nat_lt s.temporary_ttl (2 ^ 31) then Some (pos s.temporary_ttl) else Some (pos 2147483647)) else None

abbrev pub temp_ttl_unfollowed : Settings → Option Unfollowed
temp_ttl_unfollowed s =
    if s.temp_lru then (if nat_lt s.temporary_ttl (2 ^ 31) then None else Some (TemporaryTtl s.temporary_ttl)) else None

-- -1 where no item enters TEMP
abbrev pub bound_of : Option ℤ → ℤ
bound_of None = negsuc 0
bound_of (Some seconds) = seconds

abbrev pub chunk_unfollowed : ℕ → Option Unfollowed
chunk_unfollowed size = if size == 48 then None else Some (ChunkSize size)

abbrev pub item_unfollowed : ℕ → Option Unfollowed
item_unfollowed size = if size == 1048576 then None else Some (ItemSizeMax size)

-- ---- all of it

-- what lrudb is opened with in the place of a server of these settings, beside a factor that may be given
pub record Follows (s : Settings) (given : Option Factor) (setup : Setup) : Type 0 where
  pub factor : Factor
  pub wanted : IsWanted s.growth_factor given factor
  pub config_is : setup.config ≡ opened_config (pages_of s.max_bytes) factor (bound_of (temp_ttl_of s))
  pub tune_is : setup.tune ≡ tune_of s
  pub temp_ttl_is : setup.temp_ttl ≡ temp_ttl_of s
  pub unfollowed_is : setup.unfollowed ≡ memory_unfollowed s.max_bytes ∷ chunk_unfollowed s.chunk_size ∷ item_unfollowed s.item_size_max ∷ factor_unfollowed (fault_of (config_of (pages_of s.max_bytes) factor (bound_of (temp_ttl_of s)))) ∷ tune_unfollowed s ∷ temp_ttl_unfollowed s ∷ []
