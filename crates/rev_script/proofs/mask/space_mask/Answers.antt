use Rattle.std.proofs.Common.{◌≡◌, ◌↔◌, ℕ, ◌+◌, ◌%◌, ◌^◌, ◌<◌, ◌≤◌, false, cond, eqb, List, map, length, get_or, replicate, refl, ap, ◌∙◌, arith, w8}
use Rattle.std.specs.Int.{bit_at}
use Rattle.std.proofs.lemmas.Bool.Decides.{eqb_tells}
use Rattle.std.proofs.lemmas.Simd.{bitmask_splat, bit_mask_l, length-chunk, get_or-chunk}
use Rattle.std.proofs.lemmas.List.{get_or-map}
use Rattle.std.proofs.Common.{inl, inr}
use lib.Lanes.{chunk, zip2, mask_l, top}
use Rattle.rev_script.proofs.mask.space_mask.Goals as goal

bit_of : (b : ℕ) (x y : ℕ) → b ≡ cond (eqb x y) 1 0 → (b ≡ 1) ↔ (x ≡ y)
bit_of b x y e = elim (eqb_tells x y) [
  | inl p ↦ (λ h. p.1, λ h. e ∙ (rw p.0 refl))
  | inr p ↦ (λ h. absurd (let q = rw p.0 at e in omega arith), λ h. absurd (p.1 h))
]

lane : (front : List ℕ) → 64 ≤ length front → (k : ℕ) → k < 64 →
    bit_at (mask_l (map (top 7) (zip2 (λ a b. cond (eqb a b) 255 0) (chunk 0 64 front) (replicate 64 32))) % 2 ^ 64) k ≡ cond (eqb (get_or front k 0) 32) 1 0
lane front room k small =
    let long = length-chunk 0 64 front room in
    let at : 0 + k ≡ k = omega arith in
    ap (λ m. bit_at m k) (bitmask_splat w8 eqb (chunk 0 64 front) 64 32 long (omega arith))
    ∙ bit_mask_l (map (λ x. eqb x 32) (chunk 0 64 front)) k
    ∙ ap (λ b. cond b 1 0) (get_or-map (λ x. eqb x 32) (chunk 0 64 front) k 0 false (omega arith) ∙ ap (λ x. eqb x 32) (get_or-chunk 0 64 front k 0 small ∙ ap (λ i. get_or front i 0) at))

pub returns : goal.returns
returns c k small = bit_of _ (get_or c.args.front.now k 0) 32 (lane c.args.front.now c.requires k small)
