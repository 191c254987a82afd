use Rattle.std.proofs.Common.{length}
use Rattle.rev_watch.proofs.KeyLemmas.{IsDecoded}
use Rattle.rev_watch.proofs.key.decode.Given as goal

abbrev pub invariant-front : goal.invariant-front
invariant-front l = IsDecoded l.text l.bytes.items l.rest

abbrev pub decreases-front : goal.decreases-front
decreases-front l = length l.rest
