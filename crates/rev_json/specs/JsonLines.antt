-- Lines of JSON.
-- Rule of this project: each is a text as JSON's printer writes its tokens, without a space between them, and LF.
use Rattle.std.specs.Prelude.{◌≡◌, ℕ, zero, suc, ◌-◌, List, [], ◌∷◌, ◌++◌, Option}
use Rattle.std.specs.Io.KnownBytes.{Appends}
use Rattle.json.specs.Lex.{tokens}
use Rattle.json.specs.Print.{print}
use Rattle.rev_shell.specs.declared.run.RunFault.{RunFault}
use Rattle.rev_shell.specs.declared.run.RunFault.TheVariants.{Memory, Read, Write, TooLong}

-- a line of JSON
pub record IsJsonLine (line : List ℕ) : Type 0 where
  pub text : List ℕ
  pub printed : text ≡ print (tokens text)
  pub ended : line ≡ text ++ 10 ∷ []

-- so many lines of JSON, one behind another
abbrev pub AreJsonLines : ℕ → List ℕ → Type 0
AreJsonLines zero bytes = bytes ≡ []
AreJsonLines (suc n) bytes = (front : List ℕ) × (line : List ℕ) × AreJsonLines n front × IsJsonLine line × (bytes ≡ front ++ line)

-- so many lines were written behind what was there
abbrev pub WroteLines : ℕ → Option (List ℕ) → Option (List ℕ) → Type 0
WroteLines n old new = (bytes : List ℕ) × AreJsonLines n bytes × Appends old new bytes

-- what was written at a fault: where memory was wanted for a line, those of the lines before; where a write failed,
-- some and a part of one more; else some
abbrev pub WroteAt : RunFault → Option (List ℕ) → Option (List ℕ) → Type 0
WroteAt (Memory line) old new = WroteLines (line - 1) old new
WroteAt Write old new = (n : ℕ) × (bytes : List ℕ) × (front : List ℕ) × AreJsonLines n bytes × Appends old new (bytes ++ front)
WroteAt Read old new = (n : ℕ) × WroteLines n old new
WroteAt TooLong old new = (n : ℕ) × WroteLines n old new
