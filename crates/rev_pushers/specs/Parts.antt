-- The parts of which a line of JSON is made, and the tokens that are written of them.
-- Rule of this project: a key is a string where it is UTF-8, and else an object with its hexadecimal digits; what is
-- missing is null.
use Rattle.std.specs.Prelude.{ℕ, ◌+◌, ◌/◌, ◌%◌, nat_lt, if◌then◌else◌, List, [], ◌∷◌, ◌++◌, Option, Some, None, decimal, codes, ℤ}
use Rattle.std.specs.Fmt.{signed_decimal}
use Rattle.std.specs.Str.{is_utf8}
use Rattle.json.specs.Token.{Token, begin_object, end_object, begin_array, end_array, key, string, number, null}
use Rattle.json.specs.Print.{print}
use Rattle.rev_watch.specs.declared.event.Timestamp.{Timestamp}
use Rattle.rev_pushers.specs.Times.{micros, seconds_text}
use Rattle.rev_pushers.specs.declared.parts.Part.{Part}
use Rattle.rev_pushers.specs.declared.parts.Part.TheVariants.{Open, Close, OpenList, CloseList, Name, Text, Key, Number, Connection, Class, Seconds, Time, Null}

-- the lower hexadecimal digit of a number
abbrev pub hex_digit : ℕ → ℕ
hex_digit n = if nat_lt (n % 16) 10 then 48 + n % 16 else 87 + n % 16

-- the hexadecimal digits of bytes
abbrev pub hex : List ℕ → List ℕ
hex [] = []
hex (b ∷ bs) = hex_digit (b / 16) ∷ hex_digit b ∷ hex bs

-- a key
abbrev pub key_tokens : List ℕ → List Token
key_tokens k = if is_utf8 k then string k ∷ [] else begin_object ∷ key (codes "hex") ∷ string (hex k) ∷ end_object ∷ []

-- a connection, and a class
abbrev pub connection_token : Option ℤ → Token
connection_token None = null
connection_token (Some n) = number (signed_decimal n)

abbrev pub class_token : Option ℕ → Token
class_token None = null
class_token (Some n) = number (decimal n)

-- microseconds in seconds
abbrev pub seconds_token : Option ℕ → Token
seconds_token None = null
seconds_token (Some n) = number (seconds_text n)

-- a moment in seconds
abbrev pub time_token : Option Timestamp → Token
time_token None = null
time_token (Some t) = number (seconds_text (micros t))

-- what is written of a part
abbrev pub part_tokens : Part → List Token
part_tokens Open = begin_object ∷ []
part_tokens Close = end_object ∷ []
part_tokens OpenList = begin_array ∷ []
part_tokens CloseList = end_array ∷ []
part_tokens (Name name) = key name.now ∷ []
part_tokens (Text text) = string text.now ∷ []
part_tokens (Key bytes) = key_tokens bytes.now
part_tokens (Number n) = number (decimal n) ∷ []
part_tokens (Connection n) = connection_token n ∷ []
part_tokens (Class n) = class_token n ∷ []
part_tokens (Seconds n) = seconds_token n ∷ []
part_tokens (Time t) = time_token t ∷ []
part_tokens Null = null ∷ []

-- what is written of parts, one behind another
abbrev pub parts_tokens : List Part → List Token
parts_tokens [] = []
parts_tokens (part ∷ parts) = part_tokens part ++ parts_tokens parts

-- a line of JSON of these tokens, with LF
abbrev pub line : List Token → List ℕ
line ts = print ts ++ 10 ∷ []

-- the same behind a text
abbrev pub with_line : List ℕ → List Token → List ℕ
with_line old ts = (old ++ print ts) ++ 10 ∷ []
