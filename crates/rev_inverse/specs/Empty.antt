-- The state of a store that has just been opened.
-- Rule of memcached: the settings that it begins with.
-- Rule of this project: no page is made, and the clock stands where the configuration says.
use Rattle.std.specs.Prelude.{◌+◌, ◌*◌, [], None, length, replicate}
use Rattle.std.specs.FinMap as map
use Rattle.rev_classes.specs.Limits.{class_sizes}
use Rattle.rev_classes.specs.declared.Config.{Config}
use Rattle.rev_model.specs.State.{State}
use Rattle.rev_model.specs.declared.Globals.{Globals}

-- the clock stands where the configuration says, no cas number is given, no flush and no page move is under way, and
-- the settings are memcached's own first ones but for the bound of TEMP, which the configuration gives
abbrev pub empty_globals : Config → Globals
empty_globals c = record {
  clock = c.now;
  last_cas = 0;
  flush_limit = 0;
  flush = None;
  mover = None;
  settings = record { hot_share = 20; warm_share = 40; hot_factor = 200; warm_factor = 2000; temp_ttl = c.temp_ttl };
}

-- no page is made: each class and the page pool has an empty free list, four empty queues and seven counters at 0; no
-- chunk has an item, no key is bound, and the bump queue is empty
abbrev pub empty_state : Config → State
empty_state c =
    let last = length (class_sizes c) in
    record {
      owner = [];
      free = replicate (last + 1) [];
      queues = replicate (4 * (last + 1)) [];
      content = map.empty;
      index = map.empty;
      bump = [];
      counters = replicate (7 * (last + 1)) 0;
      globals = empty_globals c;
      fixed = record { page_size = c.page_size; sizes = class_sizes c; limit = c.pages; bump_room = c.bump };
    }
