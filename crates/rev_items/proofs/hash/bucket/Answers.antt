use Rattle.std.proofs.Common.{◌≡◌, ◌∙◌, ◌*◌, ◌%◌, ◌^◌, ◌<◌, rules, w64}
use Rattle.std.specs.Int.{trailing_zeros}
use Rattle.std.proofs.Math.Pow.{pow-lt}
use Rattle.std.proofs.lemmas.Nat.{and_mask}
use Rattle.std.proofs.lemmas.Nat.Bits.{bit_at-trailing_zeros}
use Rattle.rev_items.proofs.hash.bucket.Goals as goal

pub returns-then-count-clause-value : goal.returns-then-count-clause-value
returns-then-count-clause-value c =
    let n = c.args.count in
    let k = trailing_zeros w64 n in
    let few : k < 64 = (bit_at-trailing_zeros w64 n c.requires c.ranges.count.fits).0 in
    let within : 2 ^ k < 2 ^ 64 = pow-lt few in
    let whole : 1 * 2 ^ k % 2 ^ 64 ≡ 2 ^ k = search (rules, within) in
    let power : n ≡ 2 ^ k = c.if-count.true ∙ whole in
    rw power (and_mask c.args.hash k)
