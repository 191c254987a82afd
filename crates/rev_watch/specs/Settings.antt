-- What the texts of `stats settings` and `stats` say: lines `STAT name value`.
-- Rule of memcached: those lines.
-- Rule of this project: which of them are read, and the bounds of their values.
use Rattle.std.specs.Prelude.{ℕ, Bool, true, false, ◌==◌, if◌then◌else◌, List, [], ◌∷◌, Option, Result, Ok, Err, codes}
use Rattle.std.specs.Io.BufRead.{strip_last}
use Rattle.std.specs.List.{slice_split, filter_map}
use Rattle.std.specs.Option.{ok_or, option_and_then}
use Rattle.std.specs.Str.{bytes_eq}
use Rattle.rev_script.specs.Number.{number, factor}
use Rattle.rev_watch.specs.Fields.{and_then}
use Rattle.rev_watch.specs.Words.{value_behind}
use Rattle.rev_watch.specs.declared.settings.LogStats.{LogStats}
use Rattle.rev_watch.specs.declared.settings.Replacement.{Replacement}
use Rattle.rev_watch.specs.declared.settings.Settings.{Settings}
use Rattle.rev_watch.specs.declared.settings.Stat.{Stat}
use Rattle.rev_watch.specs.declared.settings.Stat.TheVariants.{MaxBytes, GrowthFactor, ChunkSize, ItemSizeMax, SlabChunkMax, HotLruPct, WarmLruPct, HotMaxFactor, WarmMaxFactor, TempLru, TemporaryTtl, Evictions, LruMaintainerThread, LruSegmented, ExtCompactUnder, ExtDropUnder, LogWorkerDropped, LogWatcherSkipped}
use Rattle.rev_watch.specs.declared.settings.StatFault.{StatFault}
use Rattle.rev_watch.specs.declared.settings.StatFault.TheVariants.{Missing, Twice, BadValue}

-- the name of a value
abbrev pub stat_name : Stat → List ℕ
stat_name MaxBytes = codes "maxbytes"
stat_name GrowthFactor = codes "growth_factor"
stat_name ChunkSize = codes "chunk_size"
stat_name ItemSizeMax = codes "item_size_max"
stat_name SlabChunkMax = codes "slab_chunk_max"
stat_name HotLruPct = codes "hot_lru_pct"
stat_name WarmLruPct = codes "warm_lru_pct"
stat_name HotMaxFactor = codes "hot_max_factor"
stat_name WarmMaxFactor = codes "warm_max_factor"
stat_name TempLru = codes "temp_lru"
stat_name TemporaryTtl = codes "temporary_ttl"
stat_name Evictions = codes "evictions"
stat_name LruMaintainerThread = codes "lru_maintainer_thread"
stat_name LruSegmented = codes "lru_segmented"
stat_name ExtCompactUnder = codes "ext_compact_under"
stat_name ExtDropUnder = codes "ext_drop_under"
stat_name LogWorkerDropped = codes "log_worker_dropped"
stat_name LogWatcherSkipped = codes "log_watcher_skipped"

-- what stands behind the last LF is no line
abbrev pub without_last : List (List ℕ) → List (List ℕ)
without_last [] = []
without_last (x ∷ []) = []
without_last (x ∷ y ∷ rest) = x ∷ without_last (y ∷ rest)

-- the lines of a text, each without its LF
abbrev pub whole_lines : List ℕ → List (List ℕ)
whole_lines text = without_last (slice_split (λ b. b == 10) text)

-- what a line `STAT name value` says; a CR at its end is left out
unfoldable pub stat_value : List ℕ → List ℕ → Option (List ℕ)
stat_value name line = option_and_then (value_behind name 32) (value_behind (codes "STAT") 32 (strip_last 13 line))

-- the only value
abbrev pub the_only : Stat → List (List ℕ) → Result (List ℕ) StatFault
the_only stat [] = Err (Missing stat)
the_only stat (v ∷ []) = Ok v
the_only stat (v ∷ w ∷ vs) = Err (Twice stat)

-- the value of this name, which stands once
unfoldable pub stat_in : Stat → List ℕ → Result (List ℕ) StatFault
stat_in stat text = the_only stat (filter_map (stat_value (stat_name stat)) (whole_lines text))

-- a number, at most the limit
unfoldable pub number_stat : ℕ → Stat → List ℕ → Result ℕ StatFault
number_stat limit stat text = and_then (stat_in stat text) (λ v. ok_or (number limit v) (BadValue stat))

-- decimals with at most three digits behind the point, from 0.001 to 1000, in thousandths
unfoldable pub thousandths_stat : Stat → List ℕ → Result ℕ StatFault
thousandths_stat stat text = and_then (stat_in stat text) (λ v. ok_or (factor v) (BadValue stat))

-- a switch: one of two words
abbrev pub switch : List ℕ → List ℕ → Stat → List ℕ → Result Bool StatFault
switch on off stat v =
    if bytes_eq v on then Ok true
    else (if bytes_eq v off then Ok false
    else Err (BadValue stat))

-- the switch of this name, with these two words
unfoldable pub switch_stat : List ℕ → List ℕ → Stat → List ℕ → Result Bool StatFault
switch_stat on off stat text = and_then (stat_in stat text) (switch on off stat)

-- a switch that is yes or no
abbrev pub yes_stat : Stat → List ℕ → Result Bool StatFault
yes_stat stat text = switch_stat (codes "yes") (codes "no") stat text

-- a value that is as usual where its line is missing
abbrev pub or_usual : {T : Type 0} → T → Result T StatFault → Result T StatFault
or_usual usual (Ok value) = Ok value
or_usual usual (Err (Missing stat)) = Ok usual
or_usual usual (Err fault) = Err fault

-- how a server makes room: by what not all servers tell
unfoldable pub replacement : List ℕ → Result Replacement StatFault
replacement text =
    and_then (or_usual true (switch_stat (codes "on") (codes "off") Evictions text)) (λ evictions.
    and_then (or_usual true (yes_stat LruMaintainerThread text)) (λ lru_maintainer.
    and_then (or_usual true (yes_stat LruSegmented text)) (λ lru_segmented.
    and_then (or_usual 0 (number_stat 4294967295 ExtCompactUnder text)) (λ ext_compact_under.
    and_then (or_usual 0 (number_stat 4294967295 ExtDropUnder text)) (λ ext_drop_under.
    Ok record {
      evictions = evictions;
      lru_maintainer = lru_maintainer;
      lru_segmented = lru_segmented;
      ext_compact_under = ext_compact_under;
      ext_drop_under = ext_drop_under;
    })))))

-- what `stats settings` says
unfoldable pub settings : List ℕ → Result Settings StatFault
settings text =
    and_then (number_stat 18446744073709551615 MaxBytes text) (λ max_bytes.
    and_then (thousandths_stat GrowthFactor text) (λ growth_factor.
    and_then (number_stat 4294967295 ChunkSize text) (λ chunk_size.
    and_then (number_stat 4294967295 ItemSizeMax text) (λ item_size_max.
    and_then (number_stat 4294967295 SlabChunkMax text) (λ slab_chunk_max.
    and_then (number_stat 4294967295 HotLruPct text) (λ hot_share.
    and_then (number_stat 4294967295 WarmLruPct text) (λ warm_share.
    and_then (thousandths_stat HotMaxFactor text) (λ hot_factor.
    and_then (thousandths_stat WarmMaxFactor text) (λ warm_factor.
    and_then (yes_stat TempLru text) (λ temp_lru.
    and_then (number_stat 4294967295 TemporaryTtl text) (λ temporary_ttl.
    and_then (replacement text) (λ makes_room.
    Ok record {
      max_bytes = max_bytes;
      growth_factor = growth_factor;
      chunk_size = chunk_size;
      item_size_max = item_size_max;
      slab_chunk_max = slab_chunk_max;
      hot_share = hot_share;
      warm_share = warm_share;
      hot_factor = hot_factor;
      warm_factor = warm_factor;
      temp_lru = temp_lru;
      temporary_ttl = temporary_ttl;
      replacement = makes_room;
    }))))))))))))

-- what `stats` says of the log
unfoldable pub log_stats : List ℕ → Result LogStats StatFault
log_stats text =
    and_then (number_stat 18446744073709551615 LogWorkerDropped text) (λ worker_dropped.
    and_then (number_stat 18446744073709551615 LogWatcherSkipped text) (λ watcher_skipped.
    Ok record { worker_dropped = worker_dropped; watcher_skipped = watcher_skipped }))
