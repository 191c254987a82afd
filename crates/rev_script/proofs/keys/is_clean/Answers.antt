use Rattle.std.proofs.Common.{◌≡◌, ℕ, ◌+◌, ◌%◌, ◌^◌, ◌<◌, ◌≤◌, Bool, true, false, cond, eqb, ltb, List, map, length, get_or, replicate, sym, ◌∙◌, arith, w8}
use Rattle.std.proofs.lemmas.Bool.{eqb-true}
use Rattle.std.proofs.lemmas.Bool.Decides.{nat_tests}
use Rattle.std.proofs.lemmas.Simd.{bitmask_splat, none_from_empty_mask, length-chunk}
use lib.Lanes.{chunk, zip2, mask_l, top}
use Rattle.rev_items.specs.Keys.{is_key_byte}
use Rattle.rev_script.proofs.keys.is_clean.Goals as goal

-- no lane is set, so no byte of the block passes the test
no_bytes : (t : ℕ → ℕ → Bool) (w : List ℕ) (at y : ℕ) → at + 8 ≤ length w
    → mask_l (map (top 7) (zip2 (λ a b. cond (t a b) 255 0) (chunk at 8 w) (replicate 8 y))) % 2 ^ 64 ≡ 0
    → (k : ℕ) → at ≤ k → k < at + 8 → t (get_or w k 0) y ≡ false
no_bytes t w at y room none k from to =
    none_from_empty_mask (λ x. t x y) w at 8 0 room (sym (bitmask_splat w8 t (chunk at 8 w) 8 y (length-chunk at 8 w room) (omega arith)) ∙ none) k from to

key_byte : (b : ℕ) → ltb b 33 ≡ false → eqb b 127 ≡ false → is_key_byte b ≡ true
key_byte b p q = grind (arith, nat_tests)

pub returns-then-controls-eq0 : goal.returns-then-controls-eq0
returns-then-controls-eq0 c none k from to =
    let w = c.args.word.now in
    key_byte (get_or w k 0) (no_bytes ltb w c.args.at 33 c.requires c.if-controls-eq0.true k from to)
    (no_bytes eqb w c.args.at 127 c.requires (eqb-true _ 0 none) k from to)
