-- What becomes of the lines of logs, in numbers.
-- Rule of this project: each count stays at the most that 64 bits hold.
use Rattle.std.specs.Prelude.{ℕ, ◌+◌, ◌-◌, ◌^◌, min, Bool, true, false, if◌then◌else◌, List, [], ◌∷◌}
use Rattle.rev_import.specs.Sample.{takes_event}
use Rattle.rev_watch.specs.Window.{PlainWindow, put_of}
use Rattle.rev_watch.specs.declared.event.Line.{Line}
use Rattle.rev_watch.specs.declared.event.Line.TheVariants.{Log, Skipped, Other}
use Rattle.rev_watch.specs.declared.event.LogLine.{LogLine}
use Rattle.rev_watch.specs.declared.window.Put.{Put}
use Rattle.rev_watch.specs.declared.window.Put.TheVariants.{Held, Given, Late, Repeated}
use Rattle.rev_intake.specs.Events.{is_asked, event, window_after}
use Rattle.rev_intake.specs.declared.counts.LineCounts.{LineCounts}
use Rattle.rev_intake.specs.declared.intake.Range.{Range}

-- so many more
abbrev pub more : ℕ → ℕ → ℕ
more count n = min (count + n) (2 ^ 64 - 1)

-- nothing was counted
abbrev pub no_counts : LineCounts
no_counts = record { lines = 0; other = 0; cut_off = 0; skipped = 0; left_out = 0; asked = 0; late = 0; repeated = 0; other_keys = 0 }

-- what became of an event at the window
abbrev pub counted_put : {T : Type 0} → Put T → LineCounts → LineCounts
counted_put Held c = c
counted_put (Given gid line) c = c
counted_put Late c = record c { late = more c.late 1 }
counted_put Repeated c = record c { repeated = more c.repeated 1 }

-- an event of the range, of a key that the sample takes or not
abbrev pub counted_event : {A : Type 0} → Bool → PlainWindow (LogLine A) → LogLine A → LineCounts → LineCounts
counted_event true w line c = counted_put (put_of w line.gid line).1 (record c { lines = more c.lines 1; asked = more c.asked 1 })
counted_event false w line c = record c { lines = more c.lines 1; other_keys = more c.other_keys 1 }

-- what became of a line, one more
abbrev pub counted_line : {A : Type 0} → Range → PlainWindow (LogLine A) → Line A → LineCounts → LineCounts
counted_line range w (Log line) c =
    if is_asked range line.time.seconds then counted_event (takes_event range.sample.one_of line.event) w line c
    else record c { lines = more c.lines 1; left_out = more c.left_out 1 }
counted_line range w (Skipped n) c = record c { lines = more c.lines 1; skipped = more c.skipped n }
counted_line range w Other c = record c { lines = more c.lines 1; other = more c.other 1 }

-- what became of lines
abbrev pub counted : {A : Type 0} → Range → PlainWindow (LogLine A) → List (Line A) → LineCounts → LineCounts
counted range w [] c = c
counted range w (line ∷ rest) c = counted range (window_after w (event range line)) rest (counted_line range w line c)

-- and of what stands behind the last LF, which is a line that was cut off unless it is nothing
abbrev pub counted_end : List ℕ → LineCounts → LineCounts
counted_end [] c = c
counted_end (b ∷ bs) c = record c { lines = more c.lines 1; cut_off = more c.cut_off 1 }
