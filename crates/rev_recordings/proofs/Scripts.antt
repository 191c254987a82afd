-- One file in front of others, and what a fault then tells of all.
use Rattle.std.proofs.Common.{inl, inr, ℕ, List, [], ◌∷◌, map, Option, String, refl, sym, ap, subst}
use Rattle.std.specs.Global.{Vec}
use Rattle.std.specs.declared.alloc.Global.{Global}
use Rattle.rev_requests.specs.declared.steps.Step.{Step}
use Rattle.rev_requests.specs.Plain.{plain_step}
use Rattle.rev_script.specs.declared.dialect.Dialect.{Dialect}
use Rattle.rev_recordings.specs.Recordings.{IsScript, AreAllScripts, Spoils, IsSpoilt, EndedBy, IsOfPlay, IsOfPrint}
use Rattle.rev_recordings.specs.declared.fault.RecordingFault.{RecordingFault}
use Rattle.rev_recordings.specs.declared.fault.RecordingFault.TheVariants.{NotAStep, CannotRead, TooLong, Memory, CannotWrite, LogDiffers}

-- the first file is the one
pub spoilt_here : (d : Dialect) {F : Type 0} (remaining : F → Option (List ℕ)) (file : String Global × F) (behind : List (String Global × F)) (e : RecordingFault) →
    Spoils d (remaining file.1) file.0 e → IsSpoilt d remaining (file ∷ behind) e
spoilt_here d remaining file behind e s = record {
  before = [];
  scripts = [];
  scripts_are = tt;
  file = file;
  behind = behind;
  files_are = refl;
  spoils = s;
}

-- it stands behind one that is steps
pub spoilt_behind : (d : Dialect) {F : Type 0} (remaining : F → Option (List ℕ)) (file : String Global × F) (steps : Vec (Step Global)) (files : List (String Global × F)) (e : RecordingFault) →
    IsScript d (remaining file.1) (map plain_step steps.items) → IsSpoilt d remaining files e → IsSpoilt d remaining (file ∷ files) e
spoilt_behind d remaining file steps files e is s = record {
  before = file ∷ s.before;
  scripts = steps ∷ s.scripts;
  scripts_are = (is, s.scripts_are);
  file = s.file;
  behind = s.behind;
  files_are = ap (λ l. file ∷ l) s.files_are;
  spoils = s.spoils;
}

pub ended_reading : (d : Dialect) {F : Type 0} (remaining : F → Option (List ℕ)) (files : List (String Global × F)) (e : RecordingFault) → IsSpoilt d remaining files e → EndedBy d remaining files e
ended_reading d remaining files (NotAStep file line) s = s
ended_reading d remaining files (CannotRead file) s = s
ended_reading d remaining files TooLong s = s
ended_reading d remaining files Memory s = tt
ended_reading d remaining files CannotWrite s = absurd s.spoils
ended_reading d remaining files LogDiffers s = absurd s.spoils

pub ended_playing : (d : Dialect) {F : Type 0} (remaining : F → Option (List ℕ)) (files : List (String Global × F)) (e : RecordingFault) → AreAllScripts d remaining files → IsOfPlay e → EndedBy d remaining files e
ended_playing d remaining files e all p = elim p [
  | inl m ↦ subst (EndedBy d remaining files) (sym m) tt
  | inr l ↦ subst (EndedBy d remaining files) (sym l) all
]

pub ended_printing : (d : Dialect) {F : Type 0} (remaining : F → Option (List ℕ)) (files : List (String Global × F)) (e : RecordingFault) → AreAllScripts d remaining files → IsOfPrint e → EndedBy d remaining files e
ended_printing d remaining files e all p = elim p [
  | inl m ↦ subst (EndedBy d remaining files) (sym m) tt
  | inr w ↦ subst (EndedBy d remaining files) (sym w) all
]
