-- What the status tells of how a recording ended.
use Rattle.std.proofs.Common.{◌≡◌, ◌≢◌, ℕ, List, Option, String, Result, Ok, Err, IsErr, OnOk, IfErr, MatchResult, refl}
use Rattle.std.specs.declared.alloc.Global.{Global}
use Rattle.std.specs.Io.KnownBytes.{Keeps}
use Rattle.rev_messages.specs.Telling.{Told}
use Rattle.rev_script.specs.declared.dialect.Dialect.{Dialect}
use Rattle.rev_recordings.specs.Fault.{status, text}
use Rattle.rev_recordings.specs.Recordings.{EndedBy, HasNoRows}
use Rattle.rev_recordings.specs.declared.fault.RecordingFault.{RecordingFault}
use Rattle.rev_recordings.specs.declared.fault.RecordingFault.TheVariants.{CannotWrite}

-- only what ended well has the status 0
pub rows_of : {F : Type 0} (r : Result (Unit {0}) F) (n : ℕ) (X : Type 0) → OnOk r X → (IsErr r → n ≢ 0) → n ≡ 0 → X
rows_of (Ok t) n X done some e = done
rows_of (Err f) n X done some e = absurd (some refl e)

pub no_rows_of : (told tells : Option (List ℕ)) (before after : ℕ) (d : Dialect) {F : Type 0} (remaining : F → Option (List ℕ)) (files : List (String Global × F)) (old new : Option (List ℕ)) (r : Result (Unit {0}) RecordingFault) (n : ℕ) →
    MatchResult r (λ _. n ≡ 0) (λ f. n ≡ status f) → IfErr r (λ e. EndedBy d remaining files e) → IfErr r (λ e. e ≢ CannotWrite → Keeps old new) → IfErr r (λ e. Told told tells before after (text e)) →
    n ≢ 0 → (e : RecordingFault) × HasNoRows d remaining files old new told tells before after n e
no_rows_of told tells before after d remaining files old new (Ok t) n is why kept text some = absurd (some is)
no_rows_of told tells before after d remaining files old new (Err f) n is why kept text some = (f, record { why = why; status_is = is; text_is = text; unwritten = kept })
