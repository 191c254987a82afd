-- What lies in place is the same where all of the room is.
use Rattle.std.proofs.Common.{◌≡◌, ◌∙◌, ℕ, List, length, take, drop, refl, ap, sym, arith}
use Rattle.std.proofs.lemmas.List.{take-append-drop, length-take-le}
use Rattle.rev_items.specs.Bytes.{IsPadded}

-- what counts is as long in both
pub as_long : (n m : ℕ) (xs ys : List ℕ) → IsPadded n xs → IsPadded m ys → take n xs ≡ take m ys → n ≡ m
as_long n m xs ys p q e =
    let a : length (take n xs) ≡ n = length-take-le n xs (omega arith) in
    let b : length (take m ys) ≡ m = length-take-le m ys (omega arith) in
    sym a ∙ ap length e ∙ b

-- and all is the same where what counts is
pub alike : (n m : ℕ) (xs ys : List ℕ) → n ≡ m → IsPadded n xs → IsPadded m ys → take n xs ≡ take m ys → xs ≡ ys
alike n m xs ys l p q e =
    let d : drop n xs ≡ drop m ys = rw (p.2, q.2, l) refl in
    sym (take-append-drop n xs) ∙ rw (e, d) (take-append-drop m ys)
