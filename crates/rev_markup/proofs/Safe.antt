-- What is escaped has no byte that is read as markup.
use Rattle.std.proofs.Common.{◌≡◌, ℕ, true, List, [], ◌∷◌, ◌++◌, refl, arith}
use Rattle.std.proofs.lemmas.Grind.{common_steps}
use Rattle.rev_markup.specs.Escape.{escape, escaped, escape_byte, escaped_bytes, is_safe}

pub is_safe-append : (xs ys : List ℕ) → is_safe xs ≡ true → is_safe ys ≡ true → is_safe (xs ++ ys) ≡ true
is_safe-append [] ys hx hy = hy
is_safe-append (x ∷ xs) ys hx hy = grind (arith, is_safe-append xs ys)

pub is_safe-escape : (b : ℕ) → is_safe (escape b) ≡ true
is_safe-escape b = grind (arith, common_steps)

pub is_safe-escaped : (xs : List ℕ) → is_safe (escaped xs) ≡ true
is_safe-escaped [] = refl
is_safe-escaped (x ∷ xs) = is_safe-append (escape x) (escaped xs) (is_safe-escape x) (is_safe-escaped xs)

pub is_safe-escape_byte : (b : ℕ) → is_safe (escape_byte b) ≡ true
is_safe-escape_byte b = grind (arith, common_steps, is_safe-escape b)

pub is_safe-escaped_bytes : (xs : List ℕ) → is_safe (escaped_bytes xs) ≡ true
is_safe-escaped_bytes [] = refl
is_safe-escaped_bytes (x ∷ xs) = is_safe-append (escape_byte x) (escaped_bytes xs) (is_safe-escape_byte x) (is_safe-escaped_bytes xs)
