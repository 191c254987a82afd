-- What a feed gave, piece by piece.
use Rattle.std.proofs.Common.{ℕ, List, [], ◌++◌, Option, None, Some, refl, sym, ◌∙◌, ap, append-nil, append_assoc}
use Rattle.std.specs.Io.KnownBytes.{Keeps, prepend_known}
use Rattle.rev_import_commands.specs.Feeding.{Feeds}

pub none_fed : (known : Option (List ℕ)) (text : List ℕ) → Feeds known known text text
none_fed None text = tt
none_fed (Some all) text = ([], sym (append-nil text), refl)

pub fed_on : (a b c : Option (List ℕ)) (before now after : List ℕ) → Feeds a b before now → Feeds b c now after → Feeds a c before after
fed_on None b c before now after p q = tt
fed_on (Some x) None c before now after p q = absurd p
fed_on (Some x) (Some y) None before now after p q = absurd q
fed_on (Some x) (Some y) (Some z) before now after p q = (
  p.0 ++ q.0,
  q.1 ∙ ap (λ l. l ++ q.0) p.1 ∙ append_assoc before p.0 q.0,
  p.2 ∙ ap (λ l. p.0 ++ l) q.2 ∙ sym (append_assoc p.0 q.0 z),
)

-- a piece that was begun with nothing holds what went out of the feed
pub kept_by : (a b : Option (List ℕ)) (piece : List ℕ) → Feeds a b [] piece → Keeps a (prepend_known piece b)
kept_by None b piece p = tt
kept_by (Some x) None piece p = absurd p
kept_by (Some x) (Some y) piece p = ap (λ l. l ++ y) p.1 ∙ sym p.2
