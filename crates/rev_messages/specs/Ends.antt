-- How a program ends that was stopped or not.
-- Rule of this project: its exit statuses.
use Rattle.std.specs.Prelude.{◌≡◌, ◌≢◌, ◌≤◌, ℕ, List, Option}
use Rattle.std.specs.Io.KnownBytes.{Keeps}
use Rattle.rev_messages.specs.Stop as stop
use Rattle.rev_messages.specs.Telling.{Told}
use Rattle.rev_messages.specs.declared.stop.Stop.{Stop}

-- 0 done, 2 command line or configuration, 3 memory, 4 input or output, 5 a file of steps has a line that is not a
-- step, or what is imported is at fault, 6 the log of a recording differs
abbrev pub IsStatus : ℕ → Type 0
IsStatus n = (n ≤ 6) × (n ≢ 1)

-- the program was stopped so: this is its status, and its user was told why
pub record StopsBy (told tells : Option (List ℕ)) (before after : ℕ) (result : ℕ) (s : Stop) : Type 0 where
  pub status_is : result ≡ stop.status s
  pub text_is : Told told tells before after (stop.text s)

-- the program ended with nothing told at status 0, or it was stopped
pub record EndsPlainly (told tells : Option (List ℕ)) (before after : ℕ) (result : ℕ) : Type 0 where
  pub status_is : IsStatus result
  pub quiet : result ≡ 0 → Keeps told tells
  pub stopped : result ≢ 0 → (s : Stop) × StopsBy told tells before after result s
