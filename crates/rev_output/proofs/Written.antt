-- What was written, one text after another.
use Rattle.std.proofs.Common.{◌≡◌, ℕ, ◌-◌, List, [], ◌++◌, length, take, drop, Option, None, Some, sym, ◌∙◌, ap, arith, append_assoc, append-nil, take_all, length-drop}
use Rattle.std.specs.Io.KnownBytes.{Appends, Keeps}

pub Appends-then : (a b c : Option (List ℕ)) (xs ys : List ℕ) → Appends a b xs → Appends b c ys → Appends a c (xs ++ ys)
Appends-then None b c xs ys p q = tt
Appends-then (Some ks) None c xs ys p q = absurd p
Appends-then (Some ks) (Some ls) None xs ys p q = absurd q
Appends-then (Some ks) (Some ls) (Some ms) xs ys p q = q ∙ ap (λ t. t ++ ys) p ∙ append_assoc ks xs ys

pub Appends-Keeps : (a b c : Option (List ℕ)) (xs : List ℕ) → Appends a b xs → Keeps b c → Appends a c xs
Appends-Keeps None b c xs p k = tt
Appends-Keeps (Some ks) None c xs p k = absurd p
Appends-Keeps (Some ks) (Some ls) None xs p k = absurd k
Appends-Keeps (Some ks) (Some ls) (Some ms) xs p k = k ∙ p

pub Appends-none : (a : Option (List ℕ)) → Appends a a []
Appends-none None = tt
Appends-none (Some ks) = sym (append-nil ks)

pub part_all : (l : List ℕ) (i : ℕ) → take (length l - i) (drop i l) ≡ drop i l
part_all l i = take_all (length l - i) (drop i l) (omega (arith, length-drop i l))
