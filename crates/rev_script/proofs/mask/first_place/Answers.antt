use Rattle.std.proofs.Common.{◌≡◌, ℕ, ◌<◌, ap, ◌∙◌, arith, w64, min}
use Rattle.std.specs.Int.{bit_at}
use Rattle.std.proofs.lemmas.Nat.Bits.{bit_at-zero, bit_at-trailing_zeros}
use Rattle.rev_script.proofs.mask.first_place.Goals as goal

pub returns-then-mask-eq0 : goal.returns-then-mask-eq0
returns-then-mask-eq0 c = record {
  bound = omega arith;
  set = λ l. absurd (omega arith);
  below = λ k l. ap (λ m. bit_at m k) c.if-mask-eq0.true ∙ bit_at-zero k;
}

place : (t e r : ℕ) → r ≡ min t e → r < e → r ≡ t
place t e r is l = omega arith

pub returns : goal.returns
returns c =
    let h = bit_at-trailing_zeros w64 c.args.mask (omega (arith, c.if-mask-eq0.false)) c.ranges.mask.fits in
    record {
      bound = omega (arith, c.min.ensures);
      set = λ l. ap (λ k. bit_at c.args.mask k) (place _ c.args.end c.min.result c.min.ensures l) ∙ h.1;
      below = λ k l. h.2 k (omega (arith, c.min.ensures));
    }
