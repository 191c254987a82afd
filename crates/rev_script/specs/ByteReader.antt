-- What a contract sees of a reader of bytes.
-- Rule of this project: bytes are the same whatever the pieces in which they arrive.
use Rattle.std.specs.Prelude.{◌≡◌, ◌<◌, ◌+◌, ◌-◌, ℕ, List, [], length, take, Option}
use Rattle.std.specs.Io.KnownBytes.{prepend_known, Consumes, IsAtEnd}
use Rattle.rev_output.specs.Sink.{PlainSink}
use Rattle.rev_script.specs.Source.{Told, one_more}
use Rattle.rev_script.specs.Source as source
use Rattle.rev_script.specs.declared.source.LastRead.TheVariants.{Ended, Failed}
use Rattle.rev_script.specs.declared.byte_reader.LineFault.{LineFault}
use Rattle.rev_script.specs.declared.byte_reader.LineFault.TheVariants as faults

-- what was read of a source, and what is left of it
pub record PlainReader : Type 0 where
  pub unused : List ℕ  -- the bytes that were read and not yet handed out
  pub given : ℕ  -- how many bytes were handed out
  pub source : Told  -- what the source tells of itself

-- a reader that has read nothing of its source
abbrev pub unread : Told → PlainReader
unread t = record { unused = []; given = 0; source = t }

-- the bytes that may be handed out without a read
abbrev pub front : PlainReader → List ℕ
front r = take (4294967296 - r.given) r.unused

-- the bytes that will be handed out, where they are known
abbrev pub ahead : PlainReader → Option (List ℕ)
ahead r = prepend_known r.unused r.source.remaining

-- from old to new these bytes were handed out, and counted, from the same source
pub record Passed (old new : PlainReader) (taken : List ℕ) : Type 0 where
  pub bytes : Consumes (ahead old) (ahead new) taken
  pub count : new.given ≡ old.given + length taken
  pub same : new.source.identity ≡ old.source.identity

-- the same, no read failed, and nothing was written
pub record Took (old new : PlainReader) (taken : List ℕ) : Type 0 where
  pub passed : Passed old new taken
  pub steady : new.source.failures ≡ old.source.failures
  pub beside : new.source.beside ≡ old.source.beside

-- the last read, with room for a byte, gave none, and all that was read was handed out
abbrev pub IsEnded : PlainReader → Type 0
IsEnded r = (r.source.last ≡ Ended) × (r.unused ≡ [])

-- the same, and where the bytes are known none are left
pub record AtEnd (r : PlainReader) : Type 0 where
  pub none_left : IsAtEnd (ahead r)
  pub ended : IsEnded r

-- at a fault of the source one read failed, the last one, and all that was read was handed out;
-- at too long a script as many bytes as may be were handed out, and more were read
abbrev pub StoppedBy : PlainReader → PlainReader → LineFault → Type 0
StoppedBy old new faults.Memory = Unit {0}
StoppedBy old new faults.Read =
    (new.source.failures ≡ one_more old.source.failures) × (new.source.last ≡ Failed) × (new.unused ≡ [])
StoppedBy old new faults.TooLong = (new.given ≡ 4294967296) × (0 < length new.unused)

-- these bytes were handed out, and then a fault came; nothing was written
pub record Broke (old new : PlainReader) (taken : List ℕ) (e : LineFault) : Type 0 where
  pub passed : Passed old new taken
  pub beside : new.source.beside ≡ old.source.beside
  pub stopped : StoppedBy old new e

-- the same reader, whose source was written to so
abbrev pub with_sink : PlainReader → PlainSink → PlainReader
with_sink r sink = record r { source = source.with_sink r.source sink }
