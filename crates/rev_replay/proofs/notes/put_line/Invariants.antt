use Rattle.std.proofs.Common.{◌≡◌, ◌++◌, drop, map, false}
use Rattle.rev_replay.specs.Notes as rule
use Rattle.rev_replay.proofs.notes.put_line.Given as goal

-- what was put, and what is left to put, are all
abbrev pub invariant-loop-count : goal.invariant-loop-count
invariant-loop-count g l =
    l.out.items ++ rule.line_text l.begun l.head (map (λ k. (k.0, k.1.now)) (drop l.count-index l.kinds))
    ≡ l.initial.out.items ++ rule.line_text false l.head (map (λ k. (k.0, k.1.now)) l.kinds)
