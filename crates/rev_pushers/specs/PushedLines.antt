-- Who pushed a key out, as JSON.
-- Rule of this project: an object whose names stand in this order. The prefix of keys without one is null, and what is not
-- known is null.
use Rattle.std.specs.Prelude.{ℕ, ◌==◌, if◌then◌else◌, List, [], ◌∷◌, ◌++◌, length, Option, Some, None, decimal, codes}
use Rattle.json.specs.Token.{Token, begin_object, end_object, begin_array, end_array, key, number, null}
pub use Rattle.rev_pushers.specs.Joins.{behind}
use Rattle.rev_pushers.specs.Parts.{key_tokens, connection_token, seconds_token}
use Rattle.rev_pushers.specs.Pushed.{PlainShare, PlainPushed}
use Rattle.rev_pushers.specs.declared.pushed.Amount.{Amount}
use Rattle.rev_pushers.specs.declared.pushed.ConnectionShare.{ConnectionShare}
use Rattle.rev_pushers.specs.declared.pushed.Earlier.{Earlier}

-- a prefix
abbrev pub prefix_tokens : List ℕ → List Token
prefix_tokens p = if length p == 0 then null ∷ [] else key_tokens p

-- items and bytes, and the end of an object
abbrev pub amount_tokens : Amount → List Token
amount_tokens a = key (codes "items") ∷ number (decimal a.items) ∷ key (codes "bytes") ∷ number (decimal a.bytes) ∷ end_object ∷ []

-- what was stored under a prefix, and by a connection
abbrev pub share_tokens : List ℕ → Amount → List Token
share_tokens p a = begin_object ∷ key (codes "prefix") ∷ (prefix_tokens p ++ amount_tokens a)

abbrev pub connection_tokens : ConnectionShare → List Token
connection_tokens s = begin_object ∷ key (codes "connection") ∷ connection_token s.connection ∷ amount_tokens s.amount

abbrev pub shares_tokens : List PlainShare → List Token
shares_tokens [] = []
shares_tokens (s ∷ ss) = share_tokens s.prefix s.amount ++ shares_tokens ss

abbrev pub connections_tokens : List ConnectionShare → List Token
connections_tokens [] = []
connections_tokens (s ∷ ss) = connection_tokens s ++ connections_tokens ss

-- what all others stored, by prefix and by connection, behind the list of connections
abbrev pub others_tokens : Amount → Amount → List Token
others_tokens p c =
    end_array ∷ key (codes "others") ∷ begin_object ∷ key (codes "prefixes") ∷ begin_object
    ∷ (amount_tokens p ++ key (codes "connections") ∷ begin_object ∷ (amount_tokens c ++ end_object ∷ []))

-- the parts of its object that tell what was stored
abbrev pub stored_parts : PlainPushed → List (List Token)
stored_parts p =
    (key (codes "pushed_by") ∷ begin_object ∷ key (codes "prefixes") ∷ begin_array ∷ [])
    ∷ shares_tokens p.prefixes
    ∷ (end_array ∷ key (codes "connections") ∷ begin_array ∷ [])
    ∷ connections_tokens p.connections
    ∷ others_tokens p.other_prefixes p.other_connections
    ∷ []

-- how long evicted items had lived some time before, and how long before
abbrev pub lived_before : Option Earlier → Option ℕ
lived_before None = None
lived_before (Some e) = Some e.lived

abbrev pub ago : Option Earlier → Option ℕ
ago None = None
ago (Some e) = Some e.ago

abbrev pub lived_tokens : Option ℕ → Option Earlier → List Token
lived_tokens n e =
    key (codes "lived") ∷ seconds_token n ∷ key (codes "lived_before") ∷ seconds_token (lived_before e) ∷ key (codes "before") ∷ seconds_token (ago e) ∷ []

-- the pages that came and went, and the end of the object
abbrev pub pages_tokens : ℕ → ℕ → List Token
pages_tokens gained lost = key (codes "pages_gained") ∷ number (decimal gained) ∷ key (codes "pages_lost") ∷ number (decimal lost) ∷ end_object ∷ []

-- tokens with all of it behind them
abbrev pub with_all : List Token → PlainPushed → List Token
with_all old p = (behind old (stored_parts p) ++ lived_tokens p.lived p.earlier) ++ pages_tokens p.gained p.lost

-- the same where it is known who pushed the key out
abbrev pub with_pushed : List Token → Option PlainPushed → List Token
with_pushed old None = old ++ key (codes "pushed_by") ∷ null ∷ []
with_pushed old (Some p) = with_all old p
