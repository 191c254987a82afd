use Rattle.std.proofs.Common.{◌≡◌, map, drop}
use Rattle.std.specs.List.{concat}
use Rattle.rev_messages.specs.Telling.{joined}
use Rattle.rev_messages.proofs.Parts.{IsSoFar}
use Rattle.rev_messages.proofs.telling.tell_parts.Given as goal

-- with the parts that are left, what was written is the whole text, and no write failed
abbrev pub invariant-loop-part : goal.invariant-loop-part
invariant-loop-part g l = record {
  so_far : IsSoFar (g.E.Sink.contents l.fn.errors) (g.E.Sink.contents l.errors) (concat (map (λ p. p.now) (drop l.part-index l.parts))) (joined (map (λ p. p.now) l.fn.parts));
  none_failed : g.E.Sink.failures l.errors ≡ g.E.Sink.failures l.fn.errors;
}
