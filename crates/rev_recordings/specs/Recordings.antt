-- A whole recording: what the files ask for, what was played, and what is printed of it.
-- Rule of this project: what `lrudb record` prints is what was played, whatever the threads did.
use Rattle.std.specs.Prelude.{ℕ, ◌≡◌, ◌≢◌, ◌⊎◌, List, [], ◌∷◌, ◌++◌, length, map, All, codes, Option, None, Some, Result, String}
use Rattle.std.specs.List.{zip}
use Rattle.std.specs.Global.{Vec}
use Rattle.std.specs.declared.alloc.Global.{Global}
use Rattle.std.specs.Io.KnownBytes.{Consumes, Appends, Keeps}
use Rattle.rev_model.specs.Actor as model
use Rattle.rev_requests.specs.declared.steps.Step.{Step}
use Rattle.rev_requests.specs.Plain.{plain_step}
use Rattle.rev_tree.specs.Positions.{SessionState}
use Rattle.rev_script.specs.Script.{lines}
use Rattle.rev_recorder.specs.declared.hand.LogRow.{LogRow}
use Rattle.rev_recorder.specs.declared.recorder.RecordFault.{RecordFault}
use Rattle.rev_recorder.specs.Hands.{PlainHand, Settles}
use Rattle.rev_recorder.specs.Running.{AllRan}
use Rattle.rev_recorder.specs.Settling.{AreNew, IsLegalLog}
use Rattle.rev_texts.specs.Texts.{output}
use Rattle.rev_script.specs.Steps.{all_steps, IsFirstOther}
use Rattle.rev_script.specs.declared.dialect.Dialect.{Dialect}
use Rattle.rev_messages.specs.Telling.{Told}
use Rattle.rev_recordings.specs.Fault.{status, text}
use Rattle.rev_recordings.specs.Rows.{rows_text, ends_text, IsEnd}
use Rattle.rev_recordings.specs.declared.fault.RecordingFault.{RecordingFault}
use Rattle.rev_recordings.specs.declared.fault.RecordingFault.TheVariants.{NotAStep, CannotRead, TooLong, Memory, CannotWrite, LogDiffers}

-- the steps are those of all lines of the file, in a dialect, where its bytes are known
abbrev pub IsScript : Dialect → Option (List ℕ) → List model.Step → Type 0
IsScript d None steps = Unit {0}
IsScript d (Some bytes) steps = all_steps (lines d bytes) ≡ Some steps

-- the files, one by one, hold these steps
abbrev pub AreScripts : Dialect → {F A : Type 0} → (F → Option (List ℕ)) → List (String Global × F) → List (Vec (Step A)) → Type 0
AreScripts d remaining [] [] = Unit {0}
AreScripts d remaining [] (steps ∷ scripts) = ⊥
AreScripts d remaining (file ∷ files) [] = ⊥
AreScripts d remaining (file ∷ files) (steps ∷ scripts) = IsScript d (remaining file.1) (map plain_step steps.items) × AreScripts d remaining files scripts

-- why a file of this name did not become steps: of a line that makes no step, it is the first such line of the bytes
-- read
abbrev pub Spoils : Dialect → Option (List ℕ) → String Global → RecordingFault → Type 0
Spoils d reader name (NotAStep file line) = (file ≡ name) × ((read : List ℕ) × (rest : Option (List ℕ)) × Consumes reader rest read × IsFirstOther line (lines d read))
Spoils d reader name (CannotRead file) = file ≡ name
Spoils d reader name TooLong = Unit {0}
Spoils d reader name Memory = Unit {0}
Spoils d reader name CannotWrite = ⊥
Spoils d reader name LogDiffers = ⊥

-- one of the files did not become steps, for this reason, and each before it did
pub record IsSpoilt (d : Dialect) {F : Type 0} (remaining : F → Option (List ℕ)) (files : List (String Global × F)) (e : RecordingFault) : Type 0 where
  pub before : List (String Global × F)
  pub scripts : List (Vec (Step Global))
  pub scripts_are : AreScripts d remaining before scripts
  pub file : String Global × F
  pub behind : List (String Global × F)
  pub files_are : files ≡ before ++ file ∷ behind
  pub spoils : Spoils d (remaining file.1) file.0 e

-- all files are steps, from their first lines to their last
abbrev pub AreAllScripts : Dialect → {F : Type 0} → (F → Option (List ℕ)) → List (String Global × F) → Type 0
AreAllScripts d remaining files = (scripts : List (Vec (Step Global))) × AreScripts d remaining files scripts

-- why a recording ended without its rows: the first file that is not steps; or, where all are, what came when they were
-- played or printed. Memory may be wanted at any time.
abbrev pub EndedBy : Dialect → {F : Type 0} → (F → Option (List ℕ)) → List (String Global × F) → RecordingFault → Type 0
EndedBy d remaining files (NotAStep file line) = IsSpoilt d remaining files (NotAStep file line)
EndedBy d remaining files (CannotRead file) = IsSpoilt d remaining files (CannotRead file)
EndedBy d remaining files TooLong = IsSpoilt d remaining files TooLong
EndedBy d remaining files Memory = Unit {0}
EndedBy d remaining files CannotWrite = AreAllScripts d remaining files
EndedBy d remaining files LogDiffers = AreAllScripts d remaining files

-- a fault that may come once all files are steps: when they are played
abbrev pub IsOfPlay : RecordingFault → Type 0
IsOfPlay e = (e ≡ Memory) ⊎ (e ≡ LogDiffers)

-- when they are printed
abbrev pub IsOfPrint : RecordingFault → Type 0
IsOfPrint e = (e ≡ Memory) ⊎ (e ≡ CannotWrite)

-- hands that ran these scripts came back so, each to its script's end or stopped by a limit of the tree; these are the
-- lines of those
pub record HaveRun {A : Type 0} (seal : ℕ) (hands : List PlainHand) (scripts : List (Vec (Step A))) (back : List PlainHand) (stopped : List ℕ) : Type 0 where
  pub done : List (PlainHand × Result (Unit {0}) RecordFault)
  pub ran : AllRan seal (zip hands scripts) done
  pub ends : All (λ d. IsEnd d.1) done
  pub back_are : back ≡ map (λ d. d.0) done
  pub stopped_is : stopped ≡ ends_text done

-- the scripts were played by new hands, one each, and what these were told agrees with the log and the session
pub record IsPlayed {A : Type 0} (scripts : List (Vec (Step A))) (log : List LogRow) (session : SessionState) (stopped : List ℕ) : Type 0 where
  pub hands : List PlainHand
  pub new : AreNew 1 (length scripts) hands
  pub back : List PlainHand
  pub run : HaveRun 1 hands scripts back stopped
  pub legal : IsLegalLog log session
  pub settles : Settles back log session

-- a row for each play of the log, the lines of the players that a limit stopped, and the end
abbrev pub recording_text : List LogRow → SessionState → List ℕ → List ℕ
recording_text log session stopped = rows_text session 0 log ++ (stopped ++ output (codes "END"))

-- the files' steps were played, and what was written tells how
pub record IsRecorded (d : Dialect) {F : Type 0} (remaining : F → Option (List ℕ)) (files : List (String Global × F)) (old new : Option (List ℕ)) : Type 0 where
  pub scripts : List (Vec (Step Global))
  pub scripts_are : AreScripts d remaining files scripts
  pub log : List LogRow
  pub session : SessionState
  pub stopped : List ℕ
  pub played : IsPlayed scripts log session stopped
  pub wrote : Appends old new (recording_text log session stopped)

-- the recording ended without its rows: the status and what the user was told are those of the reason, and nothing was
-- written but where a write failed
pub record HasNoRows (d : Dialect) {F : Type 0} (remaining : F → Option (List ℕ)) (files : List (String Global × F)) (old new told tells : Option (List ℕ)) (before after : ℕ) (result : ℕ) (e : RecordingFault) : Type 0 where
  pub why : EndedBy d remaining files e
  pub status_is : result ≡ status e
  pub text_is : Told told tells before after (text e)
  pub unwritten : e ≢ CannotWrite → Keeps old new
