use Rattle.std.proofs.Common.{map}
use Rattle.rev_script.specs.Steps.{get}
use Rattle.rev_rules.specs.Grown.{GrowingState, GoesOn, Fills}
use Rattle.rev_rules.proofs.grown.Growing.play_gets.Given as goal

-- wherever the gets of the keys that are left lead, those of all keys lead there
abbrev pub invariant-loop-key : goal.invariant-loop-key
invariant-loop-key g l = record {
  goes : (t : GrowingState) → GoesOn l.self (map get l.key-iterator.rest.items) t → GoesOn l.fn.self (map get l.fn.keys.items) t;
  fills : (t : GrowingState) → Fills l.self (map get l.key-iterator.rest.items) t → Fills l.fn.self (map get l.fn.keys.items) t;
}
