-- The events of logs: which are asked for, and in which order they become lines of a script. Rule of this project: the
-- events of a range of seconds, of the keys that a sample takes or of none, by rising numbers as far as they come near
-- enough.
use Rattle.std.specs.Prelude.{◌≡◌, ℕ, Bool, true, false, ◌&&◌, nat_le, if◌then◌else◌, List, [], ◌∷◌, ◌++◌, map, Ok}
use Rattle.rev_import.specs.Sample.{takes_event}
use Rattle.rev_watch.specs.Line.{line_of}
use Rattle.rev_watch.specs.Reader.{IsText}
use Rattle.rev_watch.specs.Window.{PlainWindow, put_of}
use Rattle.rev_watch.specs.declared.event.Line.{Line}
use Rattle.rev_watch.specs.declared.event.Line.TheVariants.{Log, Skipped, Other}
use Rattle.rev_watch.specs.declared.event.LogLine.{LogLine}
use Rattle.rev_watch.specs.declared.window.Put.{Put}
use Rattle.rev_watch.specs.declared.window.Put.TheVariants.{Held, Given, Late, Repeated}
use Rattle.rev_intake.specs.declared.intake.Range.{Range}

-- the bytes are these lines of a log, each whole
abbrev pub AreLogLines : {A : Type 0} → List (Line A) → List ℕ → Type 0
AreLogLines [] bytes = bytes ≡ []
AreLogLines (line ∷ rest) bytes =
    (text : List ℕ) × (behind : List ℕ) × IsText text × (line_of text ≡ Ok line) × (bytes ≡ text ++ 10 ∷ behind) × AreLogLines rest behind

-- the second is one of those that are asked for
abbrev pub is_asked : Range → ℕ → Bool
is_asked range seconds = nat_le range.first seconds && nat_le seconds range.last

-- an event with its number, where its key is one of the sample
abbrev pub sampled : {A : Type 0} → Bool → LogLine A → List (ℕ × LogLine A)
sampled true line = (line.gid, line) ∷ []
sampled false line = []

-- the event of a line with its number, where it is asked for
abbrev pub event : {A : Type 0} → Range → Line A → List (ℕ × LogLine A)
event range (Log line) = if is_asked range line.time.seconds then sampled (takes_event range.sample.one_of line.event) line else []
event range (Skipped n) = []
event range Other = []

-- the events of lines that are asked for, in the order of the lines
abbrev pub events : {A : Type 0} → Range → List (Line A) → List (ℕ × LogLine A)
events range [] = []
events range (line ∷ rest) = event range line ++ events range rest

-- what a window gives out when an event comes
abbrev pub given_of : {T : Type 0} → Put T → List T
given_of Held = []
given_of (Given gid line) = line ∷ []
given_of Late = []
given_of Repeated = []

-- what it gives out while these come
abbrev pub given_out : {T : Type 0} → PlainWindow T → List (ℕ × T) → List T
given_out w [] = []
given_out w (line ∷ rest) = given_of (put_of w line.0 line.1).1 ++ given_out (put_of w line.0 line.1).0 rest

-- the window behind them
abbrev pub window_after : {T : Type 0} → PlainWindow T → List (ℕ × T) → PlainWindow T
window_after w [] = w
window_after w (line ∷ rest) = window_after (put_of w line.0 line.1).0 rest

-- what a window holds, by rising numbers
abbrev pub held_in : {T : Type 0} → PlainWindow T → List T
held_in w = map (λ line. line.1) w.held

-- all that a window gives out, if these come and nothing else
abbrev pub ordered : {T : Type 0} → PlainWindow T → List (ℕ × T) → List T
ordered w lines = given_out w lines ++ held_in (window_after w lines)
