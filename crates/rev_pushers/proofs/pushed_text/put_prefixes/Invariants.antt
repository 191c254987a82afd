use Rattle.std.proofs.Common.{◌≡◌, drop, map}
use Rattle.rev_pushers.specs.Pushed.{plain_share}
use Rattle.rev_pushers.specs.PushedTexts.{with_prefixes}
use Rattle.rev_pushers.proofs.pushed_text.put_prefixes.Given as goal

-- what is written, with the shares that are left to write, is all
abbrev pub invariant-loop-share : goal.invariant-loop-share
invariant-loop-share g l =
    with_prefixes l.out.items (map plain_share (drop l.share-index l.shares)) ≡ with_prefixes l.initial.out.items (map plain_share l.shares)
