use Rattle.std.proofs.Common.{◌≡◌, drop}
use Rattle.rev_pushers.specs.PushedTexts.{with_connections}
use Rattle.rev_pushers.proofs.pushed_text.put_connections.Given as goal

-- what is written, with the shares that are left to write, is all
abbrev pub invariant-loop-share : goal.invariant-loop-share
invariant-loop-share g l = with_connections l.out.items (drop l.share-index l.shares) ≡ with_connections l.initial.out.items l.shares
