-- Lines and a text as memcached 1.6.18 or a later one writes them, and what the rules make of them: read off the
-- server's format, and computed. What a script does not show of them stands here alone.
use Rattle.std.specs.Prelude.{ℕ, pos, negsuc, ◌≡◌, true, false, List, [], ◌∷◌, ◌++◌, None, Some, Ok, codes, refl}
use Rattle.percent_encoding.specs.Percent.{percent_decode}
use Rattle.rev_model.specs.declared.Queue.TheVariants as queues
use Rattle.rev_script.specs.Number.{number, signed, factor}
use Rattle.rev_watch.specs.Fields.{optional_in, value_in, number_in, signed_in, optional_signed_in, look_up_outcome, store_command, store_outcome, fetched, time_left, queue, key_in, fields_of}
use Rattle.rev_watch.specs.Keys.{key_of}
use Rattle.rev_watch.specs.Kinds.{known_kind}
use Rattle.rev_watch.specs.Line.{look_up, store, deletion, eviction, page_move, crawl_end, connection_closed, unknown, event_of, timestamp, timestamp_of, gid_of, log_line, line_in, line_of}
use Rattle.rev_watch.specs.Settings.{stat_value, stat_in, number_stat, thousandths_stat, switch_stat, replacement, settings}
use Rattle.rev_watch.specs.Words.{value_behind}
use Rattle.rev_watch.specs.declared.event.Event.TheVariants as events
use Rattle.rev_watch.specs.declared.event.Line.TheVariants as lines
use Rattle.rev_watch.specs.declared.event.LookUpOutcome.TheVariants as look_ups
use Rattle.rev_watch.specs.declared.event.StoreCommand.TheVariants as commands
use Rattle.rev_watch.specs.declared.event.StoreOutcome.TheVariants as stores

pub look_up_line : {A : Type 0} → line_of {A = A} (codes "ts=1795744543.26234 gid=4 type=item_get key=sess%3A633 status=not_found clsid=0 cfd=17 size=0")
    ≡ Ok (lines.Log record { time = record { seconds = 1795744543; microseconds = 26234 }; gid = 4; event = events.LookUp (codes "sess:633") look_ups.NotFound 0 (pos 17) 0 })
unfolding look_up store deletion eviction page_move crawl_end connection_closed unknown key_in key_of percent_decode value_in optional_in number_in number signed_in signed optional_signed_in look_up_outcome store_command store_outcome fetched time_left queue known_kind event_of fields_of value_behind timestamp timestamp_of gid_of log_line line_in
look_up_line = refl

pub store_line : {A : Type 0} → line_of {A = A} (codes "ts=1795743663.940140 gid=287 type=item_store key=huge status=too_large cmd=set ttl=4294967226 clsid=11 cfd=-1696482656 size=0")
    ≡ Ok (lines.Log record { time = record { seconds = 1795743663; microseconds = 940140 }; gid = 287; event = events.Store (codes "huge") commands.Set stores.TooLarge 4294967226 11 (negsuc 1696482655) 0 })
unfolding look_up store deletion eviction page_move crawl_end connection_closed unknown key_in key_of percent_decode value_in optional_in number_in number signed_in signed optional_signed_in look_up_outcome store_command store_outcome fetched time_left queue known_kind event_of fields_of value_behind timestamp timestamp_of gid_of log_line line_in
store_line = refl

pub eviction_line : {A : Type 0} → line_of {A = A} (codes "ts=1795744551.94633 gid=10972 type=eviction key=page%3A2135 fetch=yes ttl=293 la=7 clsid=23 size=12501")
    ≡ Ok (lines.Log record { time = record { seconds = 1795744551; microseconds = 94633 }; gid = 10972; event = events.Eviction (codes "page:2135") true (Some 293) (pos 7) 23 12501 })
unfolding look_up store deletion eviction page_move crawl_end connection_closed unknown key_in key_of percent_decode value_in optional_in number_in number signed_in signed optional_signed_in look_up_outcome store_command store_outcome fetched time_left queue known_kind event_of fields_of value_behind timestamp timestamp_of gid_of log_line line_in
eviction_line = refl

-- keys that no text command can name, as the binary protocol stores them, stand as they are spelled: `user 42`, of two
-- bytes more
pub spelled_line : {A : Type 0} → line_of {A = A} (codes "ts=1795986744.621619 gid=3 type=item_store key=user%2042 status=stored cmd=set ttl=3600 clsid=1 cfd=12 size=10")
    ≡ Ok (lines.Log record { time = record { seconds = 1795986744; microseconds = 621619 }; gid = 3; event = events.Store (codes "user%2042") commands.Set stores.Stored 3600 1 (pos 12) 8 })
unfolding look_up store deletion eviction page_move crawl_end connection_closed unknown key_in key_of percent_decode value_in optional_in number_in number signed_in signed optional_signed_in look_up_outcome store_command store_outcome fetched time_left queue known_kind event_of fields_of value_behind timestamp timestamp_of gid_of log_line line_in
spelled_line = refl

-- a counter whose data are fewer than that has none
pub spelled_counter_line : {A : Type 0} → line_of {A = A} (codes "ts=1.2 gid=3 type=eviction key=cnt%201 fetch=no ttl=-1 la=7 clsid=1 size=1")
    ≡ Ok (lines.Log record { time = record { seconds = 1; microseconds = 2 }; gid = 3; event = events.Eviction (codes "cnt%201") false None (pos 7) 1 0 })
unfolding look_up store deletion eviction page_move crawl_end connection_closed unknown key_in key_of percent_decode value_in optional_in number_in number signed_in signed optional_signed_in look_up_outcome store_command store_outcome fetched time_left queue known_kind event_of fields_of value_behind timestamp timestamp_of gid_of log_line line_in
spelled_counter_line = refl

-- an item without a time to live; the line ends with CR LF
pub lasting_line : {A : Type 0} → line_of {A = A} (codes "ts=1.2 gid=3 type=eviction key=a fetch=no ttl=-1 la=7 clsid=23 size=1" ++ 13 ∷ [])
    ≡ Ok (lines.Log record { time = record { seconds = 1; microseconds = 2 }; gid = 3; event = events.Eviction (codes "a") false None (pos 7) 23 1 })
unfolding look_up store deletion eviction page_move crawl_end connection_closed unknown key_in key_of percent_decode value_in optional_in number_in number signed_in signed optional_signed_in look_up_outcome store_command store_outcome fetched time_left queue known_kind event_of fields_of value_behind timestamp timestamp_of gid_of log_line line_in
lasting_line = refl

pub page_move_line : {A : Type 0} → line_of {A = A} (codes "ts=1.2 gid=3 type=slab_move src=7 dst=0")
    ≡ Ok (lines.Log record { time = record { seconds = 1; microseconds = 2 }; gid = 3; event = events.PageMove 7 0 })
unfolding look_up store deletion eviction page_move crawl_end connection_closed unknown key_in key_of percent_decode value_in optional_in number_in number signed_in signed optional_signed_in look_up_outcome store_command store_outcome fetched time_left queue known_kind event_of fields_of value_behind timestamp timestamp_of gid_of log_line line_in
page_move_line = refl

pub crawl_end_line : {A : Type 0} → line_of {A = A} (codes "ts=1.2 gid=3 type=lru_crawler crawler=9 lru=cold low_mark=1 next_reclaims=0 since_run=1 next_run=65 elapsed=2 examined=11 reclaimed=5")
    ≡ Ok (lines.Log record { time = record { seconds = 1; microseconds = 2 }; gid = 3; event = events.CrawlEnd 9 queues.Cold 2 11 5 })
unfolding look_up store deletion eviction page_move crawl_end connection_closed unknown key_in key_of percent_decode value_in optional_in number_in number signed_in signed optional_signed_in look_up_outcome store_command store_outcome fetched time_left queue known_kind event_of fields_of value_behind timestamp timestamp_of gid_of log_line line_in
crawl_end_line = refl

pub deletion_line : {A : Type 0} → line_of {A = A} (codes "ts=1.2 gid=3 type=deleted key=a cmd=delete clsid=1 cfd=11 size=6")
    ≡ Ok (lines.Log record { time = record { seconds = 1; microseconds = 2 }; gid = 3; event = events.Deletion (codes "a") (Some (pos 11)) })
unfolding look_up store deletion eviction page_move crawl_end connection_closed unknown key_in key_of percent_decode value_in optional_in number_in number signed_in signed optional_signed_in look_up_outcome store_command store_outcome fetched time_left queue known_kind event_of fields_of value_behind timestamp timestamp_of gid_of log_line line_in
deletion_line = refl

pub connection_line : {A : Type 0} → line_of {A = A} (codes "ts=1.2 gid=3 type=conn_close rip=127.0.0.1 rport=1 transport=tcp reason=normal cfd=17")
    ≡ Ok (lines.Log record { time = record { seconds = 1; microseconds = 2 }; gid = 3; event = events.ConnectionClosed (pos 17) })
unfolding look_up store deletion eviction page_move crawl_end connection_closed unknown key_in key_of percent_decode value_in optional_in number_in number signed_in signed optional_signed_in look_up_outcome store_command store_outcome fetched time_left queue known_kind event_of fields_of value_behind timestamp timestamp_of gid_of log_line line_in
connection_line = refl

pub unknown_line : {A : Type 0} → line_of {A = A} (codes "ts=1.2 gid=3 type=proxy_req elapsed=1 type=105 code=17")
    ≡ Ok (lines.Log record { time = record { seconds = 1; microseconds = 2 }; gid = 3; event = events.Unknown (codes "proxy_req") })
unfolding look_up store deletion eviction page_move crawl_end connection_closed unknown key_in key_of percent_decode value_in optional_in number_in number signed_in signed optional_signed_in look_up_outcome store_command store_outcome fetched time_left queue known_kind event_of fields_of value_behind timestamp timestamp_of gid_of log_line line_in
unknown_line = refl

-- a line of a text, in front of what is behind it
abbrev before : List ℕ → List ℕ → List ℕ
before text rest = text ++ 13 ∷ 10 ∷ rest

pub settings_text : settings (
    before (codes "STAT maxbytes 8388608") (
    before (codes "STAT maxconns 1024") (
    before (codes "STAT growth_factor 1.25") (
    before (codes "STAT chunk_size 48") (
    before (codes "STAT item_size_max 1048576") (
    before (codes "STAT slab_chunk_max 524288") (
    before (codes "STAT hot_lru_pct 20") (
    before (codes "STAT warm_lru_pct 40") (
    before (codes "STAT hot_max_factor 0.20") (
    before (codes "STAT warm_max_factor 2.00") (
    before (codes "STAT temp_lru no") (
    before (codes "STAT temporary_ttl 61") (
    before (codes "END") (
    []))))))))))))))
    ≡ Ok record { max_bytes = 8388608; growth_factor = 1250; chunk_size = 48; item_size_max = 1048576; slab_chunk_max = 524288; hot_share = 20; warm_share = 40; hot_factor = 200; warm_factor = 2000; temp_lru = false; temporary_ttl = 61; replacement = record { evictions = true; lru_maintainer = true; lru_segmented = true; ext_compact_under = 0; ext_drop_under = 0 } }
unfolding settings replacement stat_value stat_in number_stat thousandths_stat switch_stat number factor value_behind
settings_text = refl

-- the same lines of a server with `-M -o no_lru_maintainer,ext_path=file:512m`, of which none is usual
pub replacement_text : replacement (
    before (codes "STAT evictions off") (
    before (codes "STAT lru_maintainer_thread no") (
    before (codes "STAT lru_segmented no") (
    before (codes "STAT ext_compact_under 2") (
    before (codes "STAT ext_drop_under 2") (
    before (codes "END") (
    [])))))))
    ≡ Ok record { evictions = false; lru_maintainer = false; lru_segmented = false; ext_compact_under = 2; ext_drop_under = 2 }
unfolding replacement stat_value stat_in number_stat switch_stat number value_behind
replacement_text = refl
