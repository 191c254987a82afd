-- Who pushed a key out, as text for people.
-- Rule of this project: four short lines: what was stored by prefix and by connection, how long evicted items had lived,
-- and the pages that came and went. What is not known is left out.
use Rattle.std.specs.Prelude.{ℕ, ◌==◌, ◌||◌, eqb, Bool, if◌then◌else◌, cond, List, [], ◌∷◌, ◌++◌, length, Option, Some, None, decimal, codes}
use Rattle.std.specs.List.{ends_with}
pub use Rattle.rev_pushers.specs.Joins.{joined, behind}
use Rattle.rev_pushers.specs.Pieces.{connection_text}
use Rattle.rev_pushers.specs.Pushed.{PlainShare, PlainPushed}
use Rattle.rev_pushers.specs.Times.{tenths_text}
use Rattle.rev_pushers.specs.declared.stored.Stored.{Stored}
use Rattle.rev_pushers.specs.declared.pushed.Amount.{Amount}
use Rattle.rev_pushers.specs.declared.pushed.ConnectionShare.{ConnectionShare}
use Rattle.rev_pushers.specs.declared.pushed.Earlier.{Earlier}

-- a prefix
abbrev pub prefix_name : List ℕ → List ℕ
prefix_name p = cond (length p == 0) (codes "(no prefix):") p

-- what stands between a prefix and what was stored under it: a colon too, unless there is one
abbrev pub gap_behind : List ℕ → List ℕ
gap_behind p = cond ((length p == 0) || ends_with eqb p (codes ":")) (codes " ") (codes ": ")

-- items and bytes
abbrev pub items_word : ℕ → List ℕ
items_word n = if n == 1 then codes " item, " else codes " items, "

abbrev pub bytes_word : ℕ → List ℕ
bytes_word n = if n == 1 then codes " byte" else codes " bytes"

abbrev pub amount_text : Amount → List ℕ
amount_text a = joined (decimal a.items ∷ items_word a.items ∷ decimal a.bytes ∷ bytes_word a.bytes ∷ [])

-- what was stored under a prefix, by a connection, and by all others
abbrev pub prefix_parts : List ℕ → Amount → List (List ℕ)
prefix_parts p a = joined (prefix_name p ∷ gap_behind p ∷ []) ∷ amount_text a ∷ joined (codes "; " ∷ []) ∷ []

abbrev pub connection_parts : ConnectionShare → List (List ℕ)
connection_parts s = joined (connection_text s.connection ∷ codes ": " ∷ []) ∷ amount_text s.amount ∷ joined (codes "; " ∷ []) ∷ []

abbrev pub others_parts : Amount → List (List ℕ)
others_parts a = joined (codes "others: " ∷ []) ∷ amount_text a ∷ joined (codes "\n" ∷ []) ∷ []

-- a text with these behind it
abbrev pub with_prefixes : List ℕ → List PlainShare → List ℕ
with_prefixes old [] = old
with_prefixes old (s ∷ ss) = with_prefixes (behind old (prefix_parts s.prefix s.amount)) ss

abbrev pub with_connections : List ℕ → List ConnectionShare → List ℕ
with_connections old [] = old
with_connections old (s ∷ ss) = with_connections (behind old (connection_parts s)) ss

-- from when on it is counted: from the store on, where the log shows it
abbrev pub since_word : (logged : Bool) → List ℕ
since_word logged = if logged then codes " since, by prefix: " else codes " since the log begins, by prefix: "

-- how the line of prefixes begins
abbrev pub class_text : Stored → List ℕ
class_text s = joined (codes "  stored in class " ∷ decimal s.class ∷ since_word s.logged ∷ [])

-- a text with the line of prefixes behind it, and with that of connections
abbrev pub with_by_prefix : List ℕ → Stored → PlainPushed → List ℕ
with_by_prefix old s p = behind (with_prefixes (old ++ class_text s) p.prefixes) (others_parts p.other_prefixes)

abbrev pub with_by_connection : List ℕ → PlainPushed → List ℕ
with_by_connection old p = behind (with_connections (old ++ joined (codes "  by connection: " ∷ [])) p.connections) (others_parts p.other_connections)

-- how long evicted items had lived some time before, and the end of the line
abbrev pub earlier_text : Option Earlier → List ℕ
earlier_text None = joined (codes "\n" ∷ [])
earlier_text (Some e) = joined (codes "; " ∷ tenths_text e.ago ∷ codes " s before: " ∷ tenths_text e.lived ∷ codes " s\n" ∷ [])

abbrev pub lived_text : ℕ → List ℕ
lived_text n = joined (codes "  items evicted there had lived " ∷ tenths_text n ∷ codes " s (median)" ∷ [])

-- a text with the line of that behind it
abbrev pub with_lived : List ℕ → Option Earlier → Option ℕ → List ℕ
with_lived old e None = old
with_lived old e (Some n) = (old ++ lived_text n) ++ earlier_text e

-- the line of pages
abbrev pub pages_text : ℕ → ℕ → List ℕ
pages_text gained lost = joined (codes "  pages of the class: " ∷ decimal gained ∷ codes " gained, " ∷ decimal lost ∷ codes " lost\n" ∷ [])

-- a text with all lines behind it
abbrev pub with_all : List ℕ → Stored → PlainPushed → List ℕ
with_all old s p = with_lived (with_by_connection (with_by_prefix old s p) p) p.earlier p.lived ++ pages_text p.gained p.lost

-- the same where it is known who pushed the key out
abbrev pub with_pushed : List ℕ → Stored → Option PlainPushed → List ℕ
with_pushed old s None = old
with_pushed old s (Some p) = with_all old s p
