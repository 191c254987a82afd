use Rattle.std.proofs.Common.{◌∙◌, ap, fold, arith}
use Rattle.std.proofs.lemmas.List.{take_all}
use Rattle.rev_items.specs.Hash.{hash_of, hash_step}
use Rattle.rev_items.proofs.hash.hash.Goals as goal

pub returns : goal.returns
unfolding hash_of
returns c = c.loop-byte.invariant ∙ ap (fold hash_step 2166136261) (take_all c.loop-byte.byte-index c.args.bytes.now (omega arith))
