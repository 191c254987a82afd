-- The words by which it is told in which queue of its class an item was.
-- Rule of this project: one word for each.
use Rattle.std.specs.Prelude.{ℕ, List, codes}
use Rattle.rev_model.specs.declared.Queue.{Queue}
use Rattle.rev_model.specs.declared.Queue.TheVariants.{Hot, Warm, Cold, Temp}

-- a queue of a class
abbrev pub queue_word : Queue → List ℕ
queue_word Hot = codes "hot"
queue_word Warm = codes "warm"
queue_word Cold = codes "cold"
queue_word Temp = codes "temp"
