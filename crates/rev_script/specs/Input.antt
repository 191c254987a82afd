-- What a contract sees of a source's bytes in a dialect.
-- Rule of this project: what a reader of lines reads.
use Rattle.rev_script.specs.Line.{PlainInput}
use Rattle.rev_script.specs.declared.input.Input.{Input}

abbrev pub input_of : {S A : Type 0} → Input S A → PlainInput
input_of i = record { bytes = i.bytes; dialect = i.dialect; passes = i.passes }
