-- The figures of facts: how many there are of each kind, and the bytes that were stored.
-- Rule of this project: a figure stays at the most that 64 bits hold.
use Rattle.std.specs.Prelude.{ℕ, ◌+◌, ◌-◌, ◌^◌, ◌==◌, ◌&&◌, min, Bool, List, [], ◌∷◌}
use Rattle.rev_pushers.specs.Pushed.{sum}
use Rattle.rev_top.specs.declared.facts.Fact.{Fact}
use Rattle.rev_top.specs.declared.facts.Fact.TheVariants.{Stored, Hit, Missed, Evicted, AskedAgain}
use Rattle.rev_top.specs.declared.figures.Figures.{Figures}

-- ---- one more fact

-- no fact
abbrev pub nothing : Figures
nothing = record { stores = 0; bytes = 0; hits = 0; misses = 0; evictions = 0; asked_again = 0 }

-- one more fact
abbrev pub counted : Fact → Figures → Figures
counted (Stored s) f = record f { stores = sum f.stores 1; bytes = sum f.bytes s }
counted Hit f = record f { hits = sum f.hits 1 }
counted Missed f = record f { misses = sum f.misses 1 }
counted Evicted f = record f { evictions = sum f.evictions 1 }
counted AskedAgain f = record f { asked_again = sum f.asked_again 1 }

-- ---- sums over facts

-- what a fact adds to each figure
abbrev pub stores_in : Fact → ℕ
stores_in (Stored s) = 1
stores_in f = 0

abbrev pub bytes_in : Fact → ℕ
bytes_in (Stored s) = s
bytes_in f = 0

abbrev pub hits_in : Fact → ℕ
hits_in Hit = 1
hits_in f = 0

abbrev pub misses_in : Fact → ℕ
misses_in Missed = 1
misses_in f = 0

abbrev pub evictions_in : Fact → ℕ
evictions_in Evicted = 1
evictions_in f = 0

abbrev pub again_in : Fact → ℕ
again_in AskedAgain = 1
again_in f = 0

-- the sum of what facts add
abbrev pub summed : (Fact → ℕ) → List Fact → ℕ
summed n [] = 0
summed n (f ∷ fs) = n f + summed n fs

-- such a sum as a figure
abbrev pub figure : (Fact → ℕ) → List Fact → ℕ
figure n fs = min (summed n fs) (2 ^ 64 - 1)

-- the figures of facts
abbrev pub figures_of : List Fact → Figures
figures_of fs = record {
  stores = figure stores_in fs;
  bytes = figure bytes_in fs;
  hits = figure hits_in fs;
  misses = figure misses_in fs;
  evictions = figure evictions_in fs;
  asked_again = figure again_in fs;
}

-- ---- figures of several names

-- the sums of two
abbrev pub plus : Figures → Figures → Figures
plus f g = record {
  stores = sum f.stores g.stores;
  bytes = sum f.bytes g.bytes;
  hits = sum f.hits g.hits;
  misses = sum f.misses g.misses;
  evictions = sum f.evictions g.evictions;
  asked_again = sum f.asked_again g.asked_again;
}

-- nothing happened
abbrev pub is_nothing : Figures → Bool
is_nothing f = (((f.stores == 0 && f.hits == 0) && f.misses == 0) && f.evictions == 0) && f.asked_again == 0
