-- Steps that exchange a part of the globals.
-- Rule of this project: a step of the clock or of the settings is one move; a flush that is due takes effect with
-- the clock.
use Rattle.std.specs.Prelude.{ℕ, cond, None}
use Rattle.rev_model.specs.State.{State}
use Rattle.rev_model.specs.Actor.{with_globals, is_due}
use Rattle.rev_model.specs.Move.{with_part}
use Rattle.rev_model.specs.declared.GlobalPart.{GlobalPart}
use Rattle.rev_model.specs.declared.Globals.{Globals}
use Rattle.rev_model.specs.declared.Outcome.{Outcome}
use Rattle.rev_model.specs.declared.Outcome.TheVariants.{Okay}
use Rattle.rev_model.specs.declared.Timing.{Timing}

-- a part of the globals becomes this one, and the answer is Okay
abbrev pub exchanged : GlobalPart → State → State × Outcome
exchanged p s = (with_globals (with_part p s.globals) s, Okay)

-- the timing with the clock at n: a flush that is due then covers all items stored so far
abbrev pub timing_at : ℕ → Globals → Timing
timing_at n g = cond (is_due g.flush n) (record { clock = n; flush_limit = g.last_cas; flush = None }) (record { clock = n; flush_limit = g.flush_limit; flush = g.flush })
