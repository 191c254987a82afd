use Rattle.std.proofs.Common.{◌≡◌, ℕ, suc, ◌<◌, ◌≤◌, Bool, true, List, [], ◌∷◌, length, get_or, nat_le, nat_lt, refl, sym, arith}
use Rattle.std.proofs.lemmas.Bool.Decides.{nat_tests}
use Rattle.std.specs.List.{list_all}
use Rattle.rev_items.specs.Keys.{is_key, is_key_byte}
use Rattle.rev_script.proofs.keys.is_key.Goals as goal

all_of : (p : ℕ → Bool) (xs : List ℕ) → ((k : ℕ) → k < length xs → p (get_or xs k 0) ≡ true) → list_all p xs ≡ true
all_of p [] h = refl
all_of p (x ∷ xs) h = rw (h 0 (omega arith)) (all_of p xs (λ k l. h (suc k) (omega arith)))

clean_key : (w : List ℕ) → 8 ≤ length w → length w ≤ 32 → ((k : ℕ) → k < length w → is_key_byte (get_or w k 0) ≡ true) → true ≡ is_key w
clean_key w some few h =
    let p : nat_lt 0 (length w) ≡ true = grind (arith, nat_tests) in
    let q : nat_le (length w) 250 ≡ true = grind (arith, nat_tests) in
    let l : list_all is_key_byte w ≡ true = all_of is_key_byte w h in
    sym (rw (p, q, l) refl)

pub returns-then-is_clean_by_blocks : goal.returns-then-is_clean_by_blocks
returns-then-is_clean_by_blocks c =
    clean_key c.args.word.now c.if-word-ge-BLOCK.true c.if-word-le-MOST_BY_BLOCKS.true (c.is_clean_by_blocks.ensures c.if-is_clean_by_blocks.true)
