-- Who pushed a key out: what was stored into its class while it was held.
-- Rule of this project: it is counted by prefix and by connection. A prefix is a key's bytes up to the first one that ends
-- a prefix and with it; keys without one have an empty prefix.
use Rattle.std.specs.Prelude.{ℕ, ◌+◌, ◌-◌, ◌^◌, ◌==◌, nat_lt, min, Bool, cond, List, [], map, take, Option, Some, None}
use Rattle.std.specs.List.{position}
use Rattle.rev_pushers.specs.declared.pushed.Amount.{Amount}
use Rattle.rev_pushers.specs.declared.pushed.ConnectionShare.{ConnectionShare}
use Rattle.rev_pushers.specs.declared.pushed.Earlier.{Earlier}
use Rattle.rev_pushers.specs.declared.pushed.PrefixShare.{PrefixShare}
use Rattle.rev_pushers.specs.declared.pushed.PushedBy.{PushedBy}

-- ---- without an allocator

pub record PlainShare : Type 0 where
  pub prefix : List ℕ
  pub amount : Amount

pub record PlainPushed : Type 0 where
  pub prefixes : List PlainShare
  pub other_prefixes : Amount
  pub connections : List ConnectionShare
  pub other_connections : Amount
  pub lived : Option ℕ
  pub earlier : Option Earlier
  pub gained : ℕ
  pub lost : ℕ

abbrev pub plain_share : {A : Type 0} → PrefixShare A → PlainShare
plain_share s = record { prefix = s.prefix.items; amount = s.amount }

abbrev pub plain_pushed : {A : Type 0} → PushedBy A → PlainPushed
plain_pushed p = record {
  prefixes = map plain_share p.prefixes.items;
  other_prefixes = p.other_prefixes;
  connections = p.connections.items;
  other_connections = p.other_connections;
  lived = p.lived;
  earlier = p.earlier;
  gained = p.gained;
  lost = p.lost;
}

-- ---- amounts

-- a sum, which stays at the most that 64 bits hold
abbrev pub sum : ℕ → ℕ → ℕ
sum a b = min (a + b) (2 ^ 64 - 1)

-- one more item of so many bytes
abbrev pub with_item : ℕ → Amount → Amount
with_item size a = record { items = sum a.items 1; bytes = sum a.bytes size }

-- without these
abbrev pub without : (less : Amount) → Amount → Amount
without less a = record { items = a.items - less.items; bytes = a.bytes - less.bytes }

-- more items, or as many with more bytes
abbrev pub is_above : Amount → Amount → Bool
is_above a b = cond (a.items == b.items) (nat_lt b.bytes a.bytes) (nat_lt b.items a.items)

-- ---- prefixes

-- up to the place of a byte and with it
abbrev pub cut_behind : List ℕ → Option ℕ → List ℕ
cut_behind k None = []
cut_behind k (Some n) = take (n + 1) k

-- the prefix of a key, where this byte ends it
abbrev pub prefix_of : ℕ → List ℕ → List ℕ
prefix_of end k = cut_behind k (position (λ b. b == end) k)
