-- The timing that a flush leaves.
-- Rule of memcached: a flush takes effect at once or at its moment, and a later one replaces it.
use Rattle.std.specs.Prelude.{ℕ, cond, None, Some, nat_le}
use Rattle.rev_model.specs.declared.Globals.{Globals}
use Rattle.rev_model.specs.declared.Timing.{Timing}

-- the timing after a flush at this moment
abbrev pub flushed : Globals → ℕ → Timing
flushed g m = cond (nat_le m g.clock) (record { clock = g.clock; flush_limit = g.last_cas; flush = None }) (record { clock = g.clock; flush_limit = g.flush_limit; flush = Some m })
