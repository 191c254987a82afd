-- What the user of a recording is told when it ends without rows.
-- Rule of this project: statuses and texts of `lrudb record`.
use Rattle.std.specs.Prelude.{ℕ, ◌≤◌, ◌≢◌, List, ◌++◌, codes, decimal, String, string_bytes}
use Rattle.std.specs.declared.alloc.Global.{Global}
use Rattle.rev_recordings.specs.declared.steps.ScriptFault.{ScriptFault}
use Rattle.rev_recordings.specs.declared.steps.ScriptFault.TheVariants as script
use Rattle.rev_recordings.specs.declared.fault.RecordingFault.{RecordingFault}
use Rattle.rev_recordings.specs.declared.fault.RecordingFault.TheVariants.{NotAStep, CannotRead, TooLong, Memory, CannotWrite, LogDiffers}

-- the statuses that a recording may end with: 0 done, 3 memory, 4 input or output, 5 a line that is not a step, 6 the
-- log differs
abbrev pub IsStatus : ℕ → Type 0
IsStatus n = (n ≤ 6) × (n ≢ 1) × (n ≢ 2)

-- the exit status of a fault
abbrev pub status : RecordingFault → ℕ
status (NotAStep file line) = 5
status (CannotRead file) = 4
status TooLong = 4
status Memory = 3
status CannotWrite = 4
status LogDiffers = 6

-- the text on the standard error
abbrev pub text : RecordingFault → List ℕ
text (NotAStep file line) = codes "lrudb: " ++ string_bytes file ++ codes ": line " ++ decimal line ++ codes ": not a step\n"
text (CannotRead file) = codes "lrudb: " ++ string_bytes file ++ codes ": cannot read\n"
text TooLong = codes "lrudb: input too long\n"
text Memory = codes "lrudb: out of memory\n"
text CannotWrite = codes "lrudb: cannot write\n"
text LogDiffers = codes "lrudb: log differs\n"

-- what a script's fault is for the file that it stands in
abbrev pub fault_of : ScriptFault → String Global → RecordingFault
fault_of (script.NotAStep line) file = NotAStep file line
fault_of script.Memory file = Memory
fault_of script.Read file = CannotRead file
fault_of script.TooLong file = TooLong
