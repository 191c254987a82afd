-- The fields of a log's lines, by memcached's own names.
-- Rule of memcached: those names.
use Rattle.std.specs.Prelude.{ℕ, List, codes}
use Rattle.rev_watch.specs.declared.fault.Field.{Field}
use Rattle.rev_watch.specs.declared.fault.Field.TheVariants.{Ts, Gid, Kind, Key, Status, Cmd, Ttl, Clsid, Cfd, Size, Fetch, La, Src, Dst, Crawler, Lru, Elapsed, Examined, Reclaimed, Skipped}

-- the name of a field
abbrev pub name_of : Field → List ℕ
name_of Ts = codes "ts"
name_of Gid = codes "gid"
name_of Kind = codes "type"
name_of Key = codes "key"
name_of Status = codes "status"
name_of Cmd = codes "cmd"
name_of Ttl = codes "ttl"
name_of Clsid = codes "clsid"
name_of Cfd = codes "cfd"
name_of Size = codes "size"
name_of Fetch = codes "fetch"
name_of La = codes "la"
name_of Src = codes "src"
name_of Dst = codes "dst"
name_of Crawler = codes "crawler"
name_of Lru = codes "lru"
name_of Elapsed = codes "elapsed"
name_of Examined = codes "examined"
name_of Reclaimed = codes "reclaimed"
name_of Skipped = codes "skipped"
