-- What is told of an import that went well, from its parts.
use Rattle.std.proofs.Common.{◌≡◌, ◌∙◌, sym, ap, Bool, true, false, ℕ, List, ◌++◌, Option, Result, Ok, Err, IsOk, OnOk, string_bytes, subst}
use Rattle.std.proofs.lemmas.Bool.{false≢true, true≢false}
use Rattle.rev_import.specs.declared.figures.Figures.{Figures}
use Rattle.rev_intake.specs.declared.counts.LineCounts.{LineCounts}
use Rattle.rev_options.specs.declared.import.WatchImport.{WatchImport}
use Rattle.std.specs.declared.alloc.Global.{Global}
use Rattle.rev_import_commands.specs.Importing.{Reports, Tells, TellsBy, TellsLed, TellsLogs, counted, leads, led_notes, run_notes}
use Rattle.rev_messages.specs.Telling.{Told}
use Rattle.rev_messages.specs.declared.stop.Stop.{Stop}
use Rattle.rev_replay.specs.declared.run.Replay.{Replay}
use Rattle.rev_watch.specs.declared.settings.LogStats.{LogStats}

pub tells_logs : (asked : WatchImport) (stats : Option LogStats) (front now third after : List ℕ) (start script : ℕ)
    → (counts : LineCounts) × (figures : Figures) × (now ≡ counted asked.sample.one_of front counts figures stats)
    → (checked : List ℕ) × (third ≡ now ++ checked)
    → after ≡ run_notes (string_bytes asked.out) asked.split third start script
    → TellsLogs asked after
tells_logs asked stats front now third after start script p q r = record {
  front = front;
  counts = p.0;
  figures = p.1;
  stats = stats;
  checked = q.0;
  start = start;
  script = script;
  are = r ∙ ap (λ l. run_notes (string_bytes asked.out) asked.split l start script) (q.1 ∙ ap (λ l. l ++ q.0) p.2);
}

pub tells_led : (asked : WatchImport) (replay : Replay Global) (stats : Option LogStats) (steps start script : ℕ) (front now after : List ℕ)
    → now ≡ led_notes front replay stats steps asked.life
    → after ≡ run_notes (string_bytes asked.out) asked.split now start script
    → TellsLed asked after
tells_led asked replay stats steps start script front now after p q = record {
  front = front;
  replay = replay;
  stats = stats;
  steps = steps;
  start = start;
  script = script;
  are = q ∙ ap (λ l. run_notes (string_bytes asked.out) asked.split l start script) p;
}

-- where it is known whether the log leads
by_led : (b : Bool) (asked : WatchImport) (done : Result (Unit {0}) Stop) (notes : List ℕ)
    → b ≡ true → OnOk done (TellsLed asked notes) → OnOk done (TellsBy b asked notes)
by_led true asked done notes e p = p
by_led false asked done notes e p = absurd (false≢true e)

by_rules : (b : Bool) (asked : WatchImport) (done : Result (Unit {0}) Stop) (notes : List ℕ)
    → b ≡ false → OnOk done (TellsLogs asked notes) → OnOk done (TellsBy b asked notes)
by_rules true asked done notes e p = absurd (true≢false e)
by_rules false asked done notes e p = p

pub tells_by_led : (asked : WatchImport) (test : Bool) (done : Result (Unit {0}) Stop) (notes : List ℕ)
    → test ≡ leads asked → test ≡ true → OnOk done (TellsLed asked notes) → OnOk done (Tells asked notes)
tells_by_led asked test done notes e t p = by_led (leads asked) asked done notes (sym e ∙ t) p

pub tells_by_rules : (asked : WatchImport) (test : Bool) (done : Result (Unit {0}) Stop) (notes : List ℕ)
    → test ≡ leads asked → test ≡ false → OnOk done (TellsLogs asked notes) → OnOk done (Tells asked notes)
tells_by_rules asked test done notes e t p = by_rules (leads asked) asked done notes (sym e ∙ t) p

-- an import that went well, of which the notes were told
pub reports : (P : List ℕ → Type 0) (told tells : Option (List ℕ)) (before after : ℕ) (done : Result (Unit {0}) Stop) (notes shown : List ℕ)
    → OnOk done (P notes) → shown ≡ notes → IsOk done × Told told tells before after shown → Reports told tells before after P
reports P told tells before after (Ok t) notes shown are same ends =
    record { notes = notes; notes_are = are; noted = subst (λ l. Told told tells before after l) same ends.1 }
reports P told tells before after (Err stop) notes shown are same ends = absurd (false≢true ends.0)
