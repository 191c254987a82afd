-- What is sent of a script, piece by piece.
-- Rule of this project: what was sent and what waits to be sent is the script so far.
use Rattle.std.specs.Prelude.{◌≡◌, ℕ, List, [], ◌++◌, Option}
use Rattle.std.specs.Io.KnownBytes.{Appends}
use Rattle.rev_output.specs.Sink.{one_more}
use Rattle.rev_watch.specs.declared.event.LogLine.{LogLine}
use Rattle.rev_import.specs.Becoming.{Moves}
use Rattle.rev_intake.specs.declared.fault.IntakeFault.{IntakeFault}
use Rattle.rev_intake.specs.declared.fault.IntakeFault.TheVariants.{Memory, Read, Line, TooLong, Write, NoEvent}

-- a text was written behind what waited, and some of it was sent; no write failed
pub record Sends (waited waits text : List ℕ) (held holds : Option (List ℕ)) (before after : ℕ) : Type 0 where
  pub sent : List ℕ
  pub appends : Appends held holds sent
  pub same : waited ++ text ≡ sent ++ waits
  pub none_failed : after ≡ before

-- of these events those in front became lines of clients, in their order; the others wait. The lines were written
-- behind what waited to be sent, and some of all that was sent
pub record Passes {A : Type 0} (events waiting : List (LogLine A)) (waited waits : List ℕ) (held holds : Option (List ℕ)) (before after : ℕ) : Type 0 where
  pub text : List ℕ
  pub moves : Moves events waiting [] text
  pub sends : Sends waited waits text held holds before after

-- why an event was not passed on: memory was refused, or a write failed, the last
abbrev pub Stops : ℕ → ℕ → IntakeFault → Type 0
Stops before after Memory = Unit {0}
Stops before after Read = ⊥
Stops before after (Line line fault) = ⊥
Stops before after TooLong = ⊥
Stops before after Write = after ≡ one_more before
Stops before after NoEvent = ⊥
