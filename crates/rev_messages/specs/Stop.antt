-- What the user is told when the program ends before all is done.
-- Rule of this project: exit statuses and their texts: the command line, the configuration, and a run that ends early.
use Rattle.std.specs.Prelude.{ℕ, List, [], ◌∷◌, ◌++◌, codes, decimal, string_bytes}
use Rattle.rev_classes.specs.declared.ConfigFault.{ConfigFault}
use Rattle.rev_classes.specs.declared.ConfigFault.TheVariants as fault
use Rattle.rev_options.specs.Number.{name_of, help_of}
use Rattle.rev_options.specs.declared.Refused.{Refused}
use Rattle.rev_options.specs.declared.number.Number.{Number}
use Rattle.rev_options.specs.declared.number.Number.TheVariants.{PageSize, Pages, Num, Den, Bump, HashPower, Now}
use Rattle.rev_options.specs.declared.Refused.TheVariants as words
use Rattle.rev_trace.specs.declared.fault.RowFault.{RowFault}
use Rattle.rev_trace.specs.declared.fault.RowFault.TheVariants as row
use Rattle.rev_watch.specs.Field as field
use Rattle.rev_watch.specs.Settings.{stat_name}
use Rattle.rev_watch.specs.declared.fault.LineFault.{LineFault}
use Rattle.rev_watch.specs.declared.fault.LineFault.TheVariants as line
use Rattle.rev_watch.specs.declared.settings.StatFault.{StatFault}
use Rattle.rev_watch.specs.declared.settings.StatFault.TheVariants as stat
use Rattle.rev_messages.specs.Telling.{joined}
use Rattle.rev_messages.specs.declared.stop.Stop.{Stop}
use Rattle.rev_messages.specs.declared.stop.Stop.TheVariants.{Usage, BadPage, BadFactor, TooManyClasses, BadLimit, Memory, CannotRead, CannotOpen, NotAStep, CannotWrite, TooLong, CannotWriteFile, BadLine, BadStats, NoEvent, BadRow, NoRow, BadImport}

-- the exit status: 2 the command line or the configuration, 3 memory, 4 input or output, 5 a line that is not a step,
-- or what is imported
abbrev pub status : Stop → ℕ
status (Usage told) = 2
status BadPage = 2
status BadFactor = 2
status TooManyClasses = 2
status BadLimit = 2
status Memory = 3
status CannotRead = 4
status (CannotOpen name) = 4
status (NotAStep file line) = 5
status CannotWrite = 4
status TooLong = 4
status (CannotWriteFile name) = 4
status (BadLine log n fault) = 5
status (BadStats file fault) = 5
status (NoEvent log) = 5
status (BadRow trace n fault) = 5
status (NoRow trace) = 5
status (BadImport told) = 5

-- why a line of a log is none, in three parts
abbrev pub line_parts : LineFault → List (List ℕ)
line_parts line.Memory = codes "out of memory" ∷ [] ∷ [] ∷ []
line_parts (line.Missing of) = codes "no field `" ∷ field.name_of of ∷ codes "`" ∷ []
line_parts (line.Twice of) = codes "field `" ∷ field.name_of of ∷ codes "` stands twice" ∷ []
line_parts (line.BadValue of) = codes "field `" ∷ field.name_of of ∷ codes "` has a value that it cannot have" ∷ []
line_parts line.BadEscape = codes "a `%` without two hexadecimal digits in the key" ∷ [] ∷ [] ∷ []
line_parts line.BadKey = codes "the key is no key, neither decoded nor as it is spelled" ∷ [] ∷ [] ∷ []
line_parts line.TooManyFields = codes "more than 32 fields" ∷ [] ∷ [] ∷ []
line_parts line.TooLong = codes "more than 4096 bytes" ∷ [] ∷ [] ∷ []

-- why a text of statistics says too little, in three parts
abbrev pub stat_parts : StatFault → List (List ℕ)
stat_parts (stat.Missing of) = codes "no line `STAT " ∷ stat_name of ∷ codes "`" ∷ []
stat_parts (stat.Twice of) = codes "`STAT " ∷ stat_name of ∷ codes "` stands twice" ∷ []
stat_parts (stat.BadValue of) = codes "`STAT " ∷ stat_name of ∷ codes "` has a value that it cannot have" ∷ []

-- what is told of a line that is none, by the log's name, its number and the fault
abbrev pub line_told : List ℕ → List ℕ → List (List ℕ) → List ℕ
line_told log n fault = joined (codes "lrudb: " ∷ log ∷ codes ": line " ∷ n ∷ codes ": " ∷ (fault ++ codes "\n" ∷ []))

-- and of statistics that say too little
abbrev pub stats_told : List ℕ → List (List ℕ) → List ℕ
stats_told file fault = joined (codes "lrudb: " ∷ file ∷ codes ": " ∷ (fault ++ codes "\n" ∷ []))

-- why a row of a trace is none
abbrev pub row_part : RowFault → List ℕ
row_part row.Memory = codes "out of memory"
row_part row.Columns = codes "other than 7 columns"
row_part row.Timestamp = codes "the timestamp is no number"
row_part row.KeySize = codes "the key size is no number"
row_part row.ValueSize = codes "the value size is no number"
row_part row.Ttl = codes "the TTL is no number"
row_part row.LongKey = codes "the key is longer than its size"
row_part row.BadKey = codes "the key is no key"

-- what is told of a row that is none, by the trace's name, its number and the fault
abbrev pub row_told : List ℕ → List ℕ → List ℕ → List ℕ
row_told trace n fault = joined (codes "lrudb: " ∷ trace ∷ codes ": line " ∷ n ∷ codes ": " ∷ fault ∷ codes "\n" ∷ [])

-- a line for each of these options, with its range in words
abbrev pub ranges_told : List Number → List (List ℕ)
ranges_told [] = []
ranges_told (n ∷ ns) = codes "--" ∷ name_of n ∷ codes ": " ∷ help_of n ∷ codes "\n" ∷ ranges_told ns

-- what is told of a configuration at fault, and of the options of which one or more break their range
abbrev pub config_told : List ℕ → List Number → List ℕ
config_told fault ns = joined ((codes "lrudb: bad configuration: " ++ fault ++ codes "\n") ∷ ranges_told ns)

-- the text on the standard error; of a command line, what its parser says
abbrev pub text : Stop → List ℕ
text (Usage told) = string_bytes told
text BadPage = config_told (codes "page") (PageSize ∷ [])
text BadFactor = config_told (codes "factor") (Num ∷ Den ∷ [])
text TooManyClasses = config_told (codes "classes") (PageSize ∷ Num ∷ Den ∷ [])
text BadLimit = config_told (codes "limit") (Pages ∷ Bump ∷ HashPower ∷ Now ∷ [])
text Memory = codes "lrudb: out of memory\n"
text CannotRead = codes "lrudb: cannot read\n"
text (CannotOpen name) = codes "lrudb: " ++ string_bytes name ++ codes ": cannot read\n"
text (NotAStep file line) = codes "lrudb: " ++ string_bytes file ++ codes ": line " ++ decimal line ++ codes ": not a step\n"
text CannotWrite = codes "lrudb: cannot write\n"
text TooLong = codes "lrudb: input too long\n"
text (CannotWriteFile name) = codes "lrudb: " ++ string_bytes name ++ codes ": cannot write\n"
text (BadLine log n fault) = line_told (string_bytes log) (decimal n) (line_parts fault)
text (BadStats file fault) = stats_told (string_bytes file) (stat_parts fault)
text (NoEvent log) = codes "lrudb: " ++ string_bytes log ++ codes ": no event\n"
text (BadRow trace n fault) = row_told (string_bytes trace) (decimal n) (row_part fault)
text (NoRow trace) = codes "lrudb: " ++ string_bytes trace ++ codes ": no row\n"
text (BadImport told) = string_bytes told

-- the end of a program whose words ask for nothing that there is
abbrev pub stop_of_words : Refused → Stop
stop_of_words (words.Told told) = Usage told
stop_of_words words.Memory = Memory

-- the end of a program whose configuration is at fault
abbrev pub stop_of_config : ConfigFault → Stop
stop_of_config fault.BadPage = BadPage
stop_of_config fault.BadFactor = BadFactor
stop_of_config fault.TooManyClasses = TooManyClasses
stop_of_config fault.BadLimit = BadLimit
stop_of_config fault.Memory = Memory
