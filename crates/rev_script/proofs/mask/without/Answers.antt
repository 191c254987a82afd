use Rattle.std.proofs.Common.{w64}
use Rattle.std.proofs.lemmas.Nat.Bits.{bit_at_clear_same, bit_at_clear_other}
use Rattle.rev_script.proofs.mask.without.Goals as goal

pub returns : goal.returns
returns c = record {
  gone = bit_at_clear_same w64 c.args.mask c.args.place c.requires;
  kept = λ k l apart. bit_at_clear_other w64 c.args.mask c.args.place c.requires k l apart;
}
