use Rattle.std.proofs.Common.{◌≡◌, ◌-◌, ◌++◌, map, drop, length}
use Rattle.rev_script.specs.Words.{words}
use Rattle.rev_script.proofs.Split.{IsLeft}
use Rattle.rev_script.proofs.words.few_words_by.Given as goal

abbrev pub invariant-words : goal.invariant-words
invariant-words l = IsLeft l.text l.left l.from × (map (λ x. x.now) l.few.items ++ words (drop l.from l.text) ≡ words l.text)

abbrev pub decreases-words : goal.decreases-words
decreases-words l = length l.text - l.from
