use Rattle.std.proofs.Common.{◌≡◌, map, drop}
use Rattle.rev_options.specs.Request.{brings}
use Rattle.rev_options.proofs.opening.brings.Given as goal

-- a word is among those that are left where one is among all
abbrev pub invariant-loop-word : goal.invariant-loop-word
invariant-loop-word g l = brings (map g.S.AsStr.text (drop l.word-index l.words)) ≡ brings (map g.S.AsStr.text l.fn.words)
