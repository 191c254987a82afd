use Rattle.std.specs.Prelude.{◌≡◌, false}
use Rattle.rev_model.specs.Actor.{is_busy}
use Rattle.rev_crawler.proofs.reads.is_busy.Given as goal

abbrev pub invariant-loop-class : goal.invariant-loop-class
invariant-loop-class g l = is_busy l.class l.store l.set ≡ false
