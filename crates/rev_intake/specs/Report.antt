-- What an import tells of itself.
-- Rule of this project: a line for each matter, with each count in front of what it counts.
use Rattle.std.specs.Prelude.{ℕ, List, [], ◌∷◌, ◌++◌, Option, None, Some, codes, decimal}
use Rattle.rev_import.specs.declared.figures.EventCounts.{EventCounts}
use Rattle.rev_import.specs.declared.figures.Figures.{Figures}
use Rattle.rev_import.specs.declared.setup.Unfollowed.{Unfollowed}
use Rattle.rev_import.specs.declared.setup.Unfollowed.TheVariants.{TooLittleMemory, TooMuchMemory, ChunkSize, ItemSizeMax, Factor, TooManyClasses, Tune, TemporaryTtl}
use Rattle.rev_intake.specs.declared.counts.LineCounts.{LineCounts}
use Rattle.rev_watch.specs.declared.settings.LogStats.{LogStats}

-- texts, one behind another, behind what was there
abbrev pub behind : List ℕ → List (List ℕ) → List ℕ
behind old [] = old
behind old (text ∷ texts) = behind (old ++ text) texts

-- a number between two texts
abbrev pub part : List ℕ → ℕ → List ℕ → List ℕ
part front n back = front ++ (decimal n ++ back)

-- how many lines were read, and how many events of those that are asked for, of clients
abbrev pub read_parts : LineCounts → EventCounts → List (List ℕ)
read_parts counts events =
    part (codes "read: ") counts.lines (codes " lines")
    ∷ part (codes ", ") events.look_ups (codes " look-ups")
    ∷ part (codes ", ") events.stores (codes " stores")
    ∷ part (codes ", ") events.deletions (codes " deletions")
    ∷ []

-- of the server, and how many lines were none of a log
abbrev pub server_parts : LineCounts → EventCounts → List (List ℕ)
server_parts counts events =
    part (codes ", ") events.evictions (codes " evictions")
    ∷ part (codes ", ") events.page_moves (codes " page moves")
    ∷ part (codes ", ") events.crawl_ends (codes " ends of crawls")
    ∷ part (codes ", ") events.connections (codes " of connections")
    ∷ part (codes ", ") events.unknown (codes " of unknown kinds")
    ∷ part (codes ", ") counts.other (codes " of no log\n")
    ∷ []

-- which made no line
abbrev pub dropped_parts : LineCounts → List (List ℕ)
dropped_parts counts =
    part (codes "left out: ") counts.left_out (codes " outside the range")
    ∷ part (codes ", ") counts.late (codes " too late for their place")
    ∷ part (codes ", ") counts.repeated (codes " with the number of another")
    ∷ part (codes ", ") counts.cut_off (codes " cut off at an end")
    ∷ part (codes ", ") counts.skipped (codes " skipped by the server for a slow watcher\n")
    ∷ []

-- which the server did not log, where it is known
abbrev pub stats_parts : Option LogStats → List (List ℕ)
stats_parts None = []
stats_parts (Some stats) =
    part (codes "not logged: ") stats.worker_dropped (codes " dropped by the server's threads")
    ∷ part (codes ", ") stats.watcher_skipped (codes " skipped for all its watchers\n")
    ∷ []

-- what the log does not say
abbrev pub inferred_parts : Figures → List (List ℕ)
inferred_parts figures =
    part (codes "inferred: ") figures.own_look_ups (codes " look-ups of other commands")
    ∷ part (codes ", ") figures.deletes_in_place (codes " deletes in place of hits")
    ∷ part (codes ", ") figures.deletes_late (codes " deletes in front of misses")
    ∷ part (codes ", ") figures.unexplained (codes " keys gone for no reason that was logged")
    ∷ part (codes ", ") figures.too_large (codes " stores too large")
    ∷ part (codes ", ") figures.other_classes (codes " moves and crawls of other classes\n")
    ∷ []

-- what was written
abbrev pub written_parts : Figures → List (List ℕ)
written_parts figures =
    part (codes "wrote: ") figures.lines (codes " steps")
    ∷ part (codes ", ") figures.hits (codes " hits")
    ∷ part (codes ", ") figures.misses (codes " misses\n")
    ∷ []

-- all of it
abbrev pub report_text : List ℕ → LineCounts → Figures → Option LogStats → List ℕ
report_text old counts figures stats =
    behind (behind (behind (behind (behind (behind old (read_parts counts figures.events)) (server_parts counts figures.events)) (dropped_parts counts)) (stats_parts stats)) (inferred_parts figures)) (written_parts figures)

-- how the script of these files is run
abbrev pub run_parts : List ℕ → List (List ℕ)
run_parts prefix = codes "to run it: lrudb run $(cat " ∷ prefix ∷ codes ".options) < " ∷ prefix ∷ codes ".script\n" ∷ []

-- a setting that is not followed, and what is used in its place
abbrev pub unfollowed_text : Unfollowed → List ℕ
unfollowed_text TooLittleMemory = codes "settings: less memory than a page of 1048576 bytes: --pages 1 is used\n"
unfollowed_text TooMuchMemory = codes "settings: more memory than 4096 pages: --pages 4096 is used\n"
unfollowed_text (ChunkSize bytes) = part (codes "settings: chunk_size ") bytes (codes " is not followed: classes begin as by 48\n")
unfollowed_text (ItemSizeMax bytes) = part (codes "settings: item_size_max ") bytes (codes " is not followed: items of up to 1048576 bytes are stored\n")
unfollowed_text Factor = codes "settings: a growth factor outside 21/20 to 4, or with numbers above 1000: 5/4 is used\n"
unfollowed_text TooManyClasses = codes "settings: a growth factor that makes more than 62 classes: 5/4 is used\n"
unfollowed_text Tune = codes "settings: shares or age factors outside the limits of `lru tune`: 20, 40, 0.2 and 2 are used\n"
unfollowed_text (TemporaryTtl seconds) = part (codes "settings: temporary_ttl ") seconds (codes " is not followed: 2147483647 is used\n")

-- of each setting, where it is not followed
abbrev pub setting_text : Option Unfollowed → List ℕ
setting_text None = []
setting_text (Some setting) = unfollowed_text setting

abbrev pub settings_text : List ℕ → List (Option Unfollowed) → List ℕ
settings_text old [] = old
settings_text old (setting ∷ rest) = settings_text (old ++ setting_text setting) rest
