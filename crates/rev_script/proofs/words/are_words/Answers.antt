use Rattle.std.proofs.lemmas.Grind.{common_steps}
use Rattle.std.proofs.Common.{arith}
use Rattle.rev_script.proofs.words.are_words.Goals as goal

pub returns-then-words-n-2 : goal.returns-then-words-n-2
returns-then-words-n-2 c = grind (arith, common_steps) steps 1200000
