use Rattle.std.proofs.Common.{◌≡◌, ◌++◌, drop, map}
use Rattle.rev_pushers.specs.Pushed.{plain_share}
use Rattle.rev_pushers.specs.PushedLines.{shares_tokens}
use Rattle.rev_pushers.proofs.pushed_lines.put_prefixes.Given as goal

-- what was put, and what is left to put, are all
abbrev pub invariant-loop-share : goal.invariant-loop-share
invariant-loop-share g l =
    (l.out.tokens ++ shares_tokens (map plain_share (drop l.share-index l.shares)) ≡ l.initial.out.tokens ++ shares_tokens (map plain_share l.shares))
    × (l.out.before ≡ l.initial.out.before)
