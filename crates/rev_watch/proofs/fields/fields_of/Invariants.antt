use Rattle.std.proofs.Common.{◌≡◌, ◌++◌, map, length}
use Rattle.rev_watch.specs.Words.{words}
use Rattle.rev_watch.proofs.fields.fields_of.Given as goal

abbrev pub invariant-words : goal.invariant-words
invariant-words l = words l.fn.words ≡ map (λ w. w.now) l.fields.items ++ words l.words

abbrev pub decreases-words : goal.decreases-words
decreases-words l = length l.words
