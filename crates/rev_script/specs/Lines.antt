-- What a contract sees of a reader of lines.
-- Rule of this project: what it reads, and the fault that it answers from then on.
use Rattle.std.specs.Prelude.{◌≡◌, false, Option, None}
use Rattle.rev_output.specs.Sink.{PlainSink}
use Rattle.rev_script.specs.ByteReader.{unread}
use Rattle.rev_script.specs.ByteReader as reader
use Rattle.rev_script.specs.Line.{PlainInput}
use Rattle.rev_script.specs.Source.{Told}
use Rattle.rev_script.specs.declared.dialect.Dialect.{Dialect}
use Rattle.rev_script.specs.declared.byte_reader.LineFault.{LineFault}

-- what it reads, and the fault that it answers from now on
pub record PlainLines : Type 0 where
  pub input : PlainInput
  pub fault : Option LineFault

-- a reader at the first line of all that a source will give
abbrev pub at_first : Told → Dialect → PlainLines
at_first t d = record {
  input = record { bytes = unread t; dialect = d; passes = false };
  fault = None;
}

-- nothing of its source was read yet
abbrev pub IsFirst : PlainLines → Type 0
IsFirst l = l ≡ at_first l.input.bytes.source l.input.dialect

-- the same reader, whose bytes are counted from here on
abbrev pub counted_anew : PlainLines → PlainLines
counted_anew l = record l { input = record l.input { bytes = record l.input.bytes { given = 0 } } }

-- the same reader, whose source was written to so
abbrev pub with_sink : PlainLines → PlainSink → PlainLines
with_sink l sink = record l { input = record l.input { bytes = reader.with_sink l.input.bytes sink } }
