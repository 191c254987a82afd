-- Spaces behind what was written.
use Rattle.std.proofs.Common.{◌≡◌, ℕ, ◌+◌, ◌-◌, List, ◌++◌, length, take, replicate, Result, Ok, Err, OnOk, is_ok, if◌then◌else◌, ◌∙◌, ap, arith}
use Rattle.std.proofs.lemmas.List.{take_all}

-- a list that was made so many longer
pub filled : {T E : Type 0} (r : Result T E) (old new : List ℕ) (n len size : ℕ) → n ≡ len + size → len ≡ length old →
    new ≡ (if is_ok r then take n old ++ replicate (n - len) 32 else old) → OnOk r (new ≡ old ++ replicate size 32)
filled (Ok v) old new n len size p e s =
    let all : take n old ≡ old = take_all n old (omega (arith, p, e)) in
    let left : n - len ≡ size = omega (arith, p) in
    s ∙ ap (λ l. l ++ replicate (n - len) 32) all ∙ ap (λ k. old ++ replicate k 32) left
filled (Err f) old new n len size p e s = tt
