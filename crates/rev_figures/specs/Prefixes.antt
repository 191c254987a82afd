-- What is counted of the keys of each prefix.
-- Rule of this project: a prefix is a key's bytes up to the first colon and with it; keys without one have an empty
-- prefix. A count stops at the highest number of 64 bits.
use Rattle.std.specs.Prelude.{ℕ, ◌+◌, ◌-◌, ◌^◌, ◌==◌, List, [], take, Option, Some, None}
use Rattle.std.specs.List.{position}
use Rattle.rev_figures.specs.Classes.{plus}
use Rattle.rev_figures.specs.declared.prefixes.Happened.{Happened}
use Rattle.rev_figures.specs.declared.prefixes.Happened.TheVariants.{Stored, Hit, Missed, Evicted, Left, AskedAgain}
use Rattle.rev_figures.specs.declared.prefixes.PrefixCounts.{PrefixCounts}
use Rattle.rev_figures.specs.declared.prefixes.PrefixRow.{PrefixRow}

-- up to the place of a byte and with it
abbrev pub cut_behind : List ℕ → Option ℕ → List ℕ
cut_behind k None = []
cut_behind k (Some n) = take (n + 1) k

-- the prefix of a key: a colon ends it
abbrev pub prefix_of : List ℕ → List ℕ
prefix_of k = cut_behind k (position (λ b. b == 58) k)

-- nothing happened
abbrev pub nothing : PrefixCounts
nothing = record { stores = 0; hits = 0; misses = 0; evicted = 0; left = 0; asked = 0 }

-- one thing more happened
abbrev pub counted : Happened → PrefixCounts → PrefixCounts
counted Stored n = record n { stores = plus n.stores 1 }
counted Hit n = record n { hits = plus n.hits 1 }
counted Missed n = record n { misses = plus n.misses 1 }
counted Evicted n = record n { evicted = plus n.evicted 1 }
counted Left n = record n { left = plus n.left 1 }
counted AskedAgain n = record n { asked = plus n.asked 1 }

-- two counts together
abbrev pub both : PrefixCounts → PrefixCounts → PrefixCounts
both n m = record {
  stores = plus n.stores m.stores;
  hits = plus n.hits m.hits;
  misses = plus n.misses m.misses;
  evicted = plus n.evicted m.evicted;
  left = plus n.left m.left;
  asked = plus n.asked m.asked;
}

-- how far a row's evictions are below the most that there can be: rows stand by that, rising
abbrev pub below_most : {A : Type 0} → PrefixRow A → ℕ
below_most r = 2 ^ 64 - 1 - r.counts.evicted
