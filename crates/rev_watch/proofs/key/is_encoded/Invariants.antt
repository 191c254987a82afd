use Rattle.std.proofs.Common.{◌≡◌, drop}
use Rattle.rev_watch.specs.Keys.{is_encoded}
use Rattle.rev_watch.proofs.key.is_encoded.Given as goal

abbrev pub invariant-loop-i : goal.invariant-loop-i
invariant-loop-i l = is_encoded l.text ≡ is_encoded (drop l.i l.text)
