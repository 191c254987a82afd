use Rattle.std.proofs.Common.{◌≡◌, map, drop}
use Rattle.rev_options.specs.Request.{seeks_key}
use Rattle.rev_options.proofs.opening.seeks_key.Given as goal

-- a word is among those that are left where one is among all
abbrev pub invariant-loop-word : goal.invariant-loop-word
invariant-loop-word g l = seeks_key (map g.S.AsStr.text (drop l.word-index l.words)) ≡ seeks_key (map g.S.AsStr.text l.fn.words)
