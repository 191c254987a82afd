use Rattle.std.proofs.Common.{refl}
use Rattle.rev_texts.proofs.words.outcome_word.Goals as goal

pub returns-in-Miss : goal.returns-in-Miss
returns-in-Miss c = rw c.in-Miss.is refl
