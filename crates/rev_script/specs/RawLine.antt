-- What was read of a line, before it is looked at.
-- Rule of this project: a line ends at LF or at the end, and no more than its limit is kept.
use Rattle.std.specs.Prelude.{◌≡◌, ℕ, Bool, false, if◌then◌else◌, List, [], ◌∷◌, ◌++◌, length, take}
use Rattle.rev_script.specs.ByteReader.{PlainReader, Took, Broke, AtEnd}
use Rattle.rev_script.specs.Script.{has_lf}
use Rattle.rev_script.specs.declared.byte_reader.LineFault.{LineFault}
use Rattle.rev_script.specs.declared.raw_line.RawLine.{RawLine}

-- the LF, where there was one
abbrev pub ending : Bool → List ℕ
ending feed = if feed then 10 ∷ [] else []

-- a line's bytes up to LF or the end were taken, and the first of them are kept
pub record IsText (old new : PlainReader) (raw : RawLine) (kept : List ℕ) : Type 0 where
  pub text : List ℕ
  pub no_lf : has_lf text ≡ false
  pub size : length text ≡ raw.length
  pub kept_is : kept ≡ take 65537 text
  pub took : Took old new (text ++ ending raw.feed)
  pub at_end : raw.feed ≡ false → AtEnd new

-- bytes without an LF were taken, and then a fault came
pub record IsPart (old new : PlainReader) (e : LineFault) : Type 0 where
  pub text : List ℕ
  pub no_lf : has_lf text ≡ false
  pub broke : Broke old new text e

-- the rest of a line was taken, through its LF, or up to the end
pub record IsRest (old new : PlainReader) (feed : Bool) : Type 0 where
  pub text : List ℕ
  pub no_lf : has_lf text ≡ false
  pub took : Took old new (text ++ ending feed)
  pub at_end : feed ≡ false → AtEnd new
