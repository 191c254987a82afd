use Rattle.std.proofs.Common.{map}
use Rattle.rev_tree.specs.Positions.{SessionState}
use Rattle.rev_script.specs.Steps.{get}
use Rattle.rev_plays.specs.Kept.{Plays, Fills}
use Rattle.rev_rules.proofs.parts.play_gets.Given as goal

-- wherever the gets of the keys that are left lead, those of all keys lead there
abbrev pub invariant-loop-key : goal.invariant-loop-key
invariant-loop-key g l = record {
  plays : (t : SessionState) → Plays l.session (map get l.key-iterator.rest.items) t → Plays l.fn.session (map get l.fn.keys.items) t;
  fills : (t : SessionState) → Fills l.session (map get l.key-iterator.rest.items) t → Fills l.fn.session (map get l.fn.keys.items) t;
}
