-- A table as JSON: an object for each row.
-- Rule of this project: its fields stand in this order. The prefix of keys without one is null, and so is what is not
-- known.
use Rattle.std.specs.Prelude.{ℕ, List, [], ◌∷◌, ◌++◌, Option, decimal, codes}
use Rattle.json.specs.Token.{Token, begin_object, end_object, key, string, number, null}
use Rattle.rev_pushers.specs.Parts.{class_token, seconds_token}
use Rattle.rev_pushers.specs.PushedLines.{prefix_tokens}
use Rattle.rev_top.specs.declared.figures.Figures.{Figures}
use Rattle.rev_top.specs.declared.rows.Name.{Name}
use Rattle.rev_top.specs.declared.rows.Name.TheVariants.{Prefix, Class, Others, Total}
use Rattle.rev_top.specs.declared.rows.Row.{Row}

-- the word for what a row is of
abbrev pub kind_of : Name → List ℕ
kind_of (Prefix p) = codes "prefix"
kind_of (Class c) = codes "class"
kind_of Others = codes "others"
kind_of Total = codes "total"

-- its name, null where it has none
abbrev pub name_tokens : Name → List Token
name_tokens (Prefix p) = prefix_tokens p.now
name_tokens (Class c) = class_token c ∷ []
name_tokens Others = null ∷ []
name_tokens Total = null ∷ []

-- its figures, and the end of the object
abbrev pub figures_tokens : Figures → Option ℕ → List Token
figures_tokens f lived =
    key (codes "stores") ∷ number (decimal f.stores) ∷ key (codes "bytes") ∷ number (decimal f.bytes)
    ∷ key (codes "hits") ∷ number (decimal f.hits) ∷ key (codes "misses") ∷ number (decimal f.misses)
    ∷ key (codes "evictions") ∷ number (decimal f.evictions) ∷ key (codes "asked_again") ∷ number (decimal f.asked_again)
    ∷ key (codes "lived") ∷ seconds_token lived ∷ end_object ∷ []

-- a row
abbrev pub row_tokens : Row → List Token
row_tokens r = (begin_object ∷ key (codes "row") ∷ string (kind_of r.name) ∷ key (codes "name") ∷ name_tokens r.name) ++ figures_tokens r.figures r.lived
