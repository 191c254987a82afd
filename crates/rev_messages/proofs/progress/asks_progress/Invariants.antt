use Rattle.std.proofs.Common.{◌≡◌, map, drop}
use Rattle.rev_messages.specs.Progress.{asks_progress}
use Rattle.rev_messages.proofs.progress.asks_progress.Given as goal

-- a word is among those that are left where one is among all
abbrev pub invariant-loop-word : goal.invariant-loop-word
invariant-loop-word g l = asks_progress (map g.S.AsStr.text (drop l.word-index l.words)) ≡ asks_progress (map g.S.AsStr.text l.fn.words)
