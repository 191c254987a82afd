use Rattle.std.proofs.Common.{◌≡◌, ◌++◌, drop}
use Rattle.rev_pushers.specs.PushedLines.{connections_tokens}
use Rattle.rev_pushers.proofs.pushed_lines.put_connections.Given as goal

-- what was put, and what is left to put, are all
abbrev pub invariant-loop-share : goal.invariant-loop-share
invariant-loop-share g l = (l.out.tokens ++ connections_tokens (drop l.share-index l.shares) ≡ l.initial.out.tokens ++ connections_tokens l.shares) × (l.out.before ≡ l.initial.out.before)
