-- Keys stand in a line percent-encoded.
-- Rule of memcached: its encoding of keys in a log.
-- Rule of this project: which key stands for one that no command of the text protocol can name.
use Rattle.std.specs.Prelude.{◌≡◌, ℕ, ◌<◌, ◌==◌, Bool, true, false, ◌&&◌, ◌-◌, if◌then◌else◌, List, [], ◌∷◌, length, Result, Ok, Err}
use Rattle.std.specs.Char.{is_digit}
use Rattle.percent_encoding.specs.Percent.{percent_decode}
use Rattle.rev_items.specs.Keys.{is_key}
use Rattle.rev_watch.specs.declared.fault.LineFault.{LineFault}
use Rattle.rev_watch.specs.declared.fault.LineFault.TheVariants.{BadEscape, BadKey}

-- two hexadecimal digits stand in front
abbrev pub are_digits : List ℕ → Bool
are_digits [] = false
are_digits (a ∷ []) = false
are_digits (a ∷ b ∷ rest) = is_digit a 16 && is_digit b 16

-- behind each `%`, 37, two hexadecimal digits stand
abbrev pub is_encoded : List ℕ → Bool
is_encoded [] = true
is_encoded (b ∷ rest) = (if b == 37 then are_digits rest else true) && is_encoded rest

-- behind a `%` this text begins with two digits, which stand for this byte, and goes on with this one
pub record IsEscape (text : List ℕ) (byte : ℕ) (behind : List ℕ) : Type 0 where
  pub digits : are_digits text ≡ true
  pub stands_for : percent_decode (37 ∷ text) ≡ byte ∷ percent_decode behind
  pub encoded : is_encoded text ≡ is_encoded behind
  pub shorter : length behind < length text

-- what an encoded text names: a key, and by how many bytes this is longer than what the text stands for. Mostly it is
-- what the text stands for. But clients of the binary protocol store keys with spaces and control bytes, which no
-- text command can name. For such a key stands the text itself, as the log spells it, where that is a key
abbrev pub named : List ℕ → Result (List ℕ × ℕ) LineFault
named text =
    if is_key (percent_decode text) then Ok (percent_decode text, 0)
    else (if is_key text then Ok (text, length text - length (percent_decode text)) else Err BadKey)

-- what a field's value names
unfoldable pub key_of : List ℕ → Result (List ℕ × ℕ) LineFault
key_of text = if is_encoded text then named text else Err BadEscape
