use Rattle.std.proofs.Common.{◌≡◌, ◌++◌, map, take}
use Rattle.rev_import.specs.Writing.{spaced}
use Rattle.rev_lines.proofs.text.put_words.Given as goal

abbrev pub invariant-loop-word : goal.invariant-loop-word
invariant-loop-word g l = l.out.items ≡ l.fn.out.items ++ (l.first ++ spaced (take l.word-index (map (λ w. w.now) l.rest)))
