use Rattle.std.proofs.Common.{◌≡◌, take, fold}
use Rattle.rev_items.specs.Hash.{hash_step}
use Rattle.rev_items.proofs.hash.hash.Given as goal

abbrev pub invariant-loop-byte : goal.invariant-loop-byte
invariant-loop-byte l = l.hash ≡ fold hash_step 2166136261 (take l.byte-index l.bytes)
