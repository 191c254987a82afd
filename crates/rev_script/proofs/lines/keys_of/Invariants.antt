use Rattle.std.proofs.Common.{◌≡◌, take, map}
use Rattle.rev_script.proofs.lines.keys_of.Given as goal

abbrev pub invariant-loop-w : goal.invariant-loop-w
invariant-loop-w g l = l.keys.items ≡ map (λ x. x.now) (take l.w-index l.words)
