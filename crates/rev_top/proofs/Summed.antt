-- Figures of facts, with one more.
use Rattle.std.proofs.Common.{◌≡◌, ℕ, ◌+◌, ◌-◌, ◌^◌, List, ◌∷◌, refl, arith}
use Rattle.std.specs.Prelude.{min}
use Rattle.rev_top.specs.Figures.{counted, figures_of, summed, stores_in, bytes_in, hits_in, misses_in, evictions_in, again_in}
use Rattle.rev_top.specs.declared.facts.Fact.{Fact}
use Rattle.rev_top.specs.declared.facts.Fact.TheVariants.{Stored, Hit, Missed, Evicted, AskedAgain}
use Rattle.rev_top.specs.declared.figures.Figures.{Figures}

-- a sum that stays at the most is that of all
more : (n a : ℕ) → min (min a (2 ^ 64 - 1) + n) (2 ^ 64 - 1) ≡ min (n + a) (2 ^ 64 - 1)
more n a = omega arith

-- nothing is added
same : (a : ℕ) → min a (2 ^ 64 - 1) ≡ min (0 + a) (2 ^ 64 - 1)
same a = omega arith

-- figures that are the same one by one
alike : (a b c d e f A B C D E F : ℕ) → a ≡ A → b ≡ B → c ≡ C → d ≡ D → e ≡ E → f ≡ F →
    ◌≡◌ {A = Figures} record { stores = a; bytes = b; hits = c; misses = d; evictions = e; asked_again = f } record { stores = A; bytes = B; hits = C; misses = D; evictions = E; asked_again = F }
alike a b c d e f A B C D E F p q r s t u = rw (p, q, r, s, t, u) refl

-- one more fact adds what it adds to the sums
pub one_more : (f : Fact) (fs : List Fact) → counted f (figures_of fs) ≡ figures_of (f ∷ fs)
one_more (Stored s) fs = alike _ _ _ _ _ _ _ _ _ _ _ _ (more 1 (summed stores_in fs)) (more s (summed bytes_in fs)) (same (summed hits_in fs)) (same (summed misses_in fs)) (same (summed evictions_in fs)) (same (summed again_in fs))
one_more Hit fs = alike _ _ _ _ _ _ _ _ _ _ _ _ (same (summed stores_in fs)) (same (summed bytes_in fs)) (more 1 (summed hits_in fs)) (same (summed misses_in fs)) (same (summed evictions_in fs)) (same (summed again_in fs))
one_more Missed fs = alike _ _ _ _ _ _ _ _ _ _ _ _ (same (summed stores_in fs)) (same (summed bytes_in fs)) (same (summed hits_in fs)) (more 1 (summed misses_in fs)) (same (summed evictions_in fs)) (same (summed again_in fs))
one_more Evicted fs = alike _ _ _ _ _ _ _ _ _ _ _ _ (same (summed stores_in fs)) (same (summed bytes_in fs)) (same (summed hits_in fs)) (same (summed misses_in fs)) (more 1 (summed evictions_in fs)) (same (summed again_in fs))
one_more AskedAgain fs = alike _ _ _ _ _ _ _ _ _ _ _ _ (same (summed stores_in fs)) (same (summed bytes_in fs)) (same (summed hits_in fs)) (same (summed misses_in fs)) (same (summed evictions_in fs)) (more 1 (summed again_in fs))
