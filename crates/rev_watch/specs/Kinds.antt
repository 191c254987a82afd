-- The kinds of events whose fields are looked at, by memcached's own names.
-- Rule of memcached: those names.
use Rattle.std.specs.Prelude.{ℕ, List, if◌then◌else◌, Option, None, Some, codes}
use Rattle.std.specs.Str.{bytes_eq}
use Rattle.rev_watch.specs.declared.kind.Kind.{Kind}
use Rattle.rev_watch.specs.declared.kind.Kind.TheVariants.{LookUp, Store, Eviction, Deletion, PageMove, CrawlEnd, ConnectionOpened, ConnectionClosed}

-- the kind of this name (two names are taken for a deletion's line, which only later servers write)
unfoldable pub known_kind : List ℕ → Option Kind
known_kind w =
    if bytes_eq w (codes "item_get") then Some LookUp
    else (if bytes_eq w (codes "item_store") then Some Store
    else (if bytes_eq w (codes "eviction") then Some Eviction
    else (if bytes_eq w (codes "deleted") then Some Deletion
    else (if bytes_eq w (codes "item_delete") then Some Deletion
    else (if bytes_eq w (codes "slab_move") then Some PageMove
    else (if bytes_eq w (codes "lru_crawler") then Some CrawlEnd
    else (if bytes_eq w (codes "conn_new") then Some ConnectionOpened
    else (if bytes_eq w (codes "conn_close") then Some ConnectionClosed
    else None))))))))
