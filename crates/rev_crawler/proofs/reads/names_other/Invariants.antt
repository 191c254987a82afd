use Rattle.std.specs.Prelude.{◌≡◌, false}
use Rattle.rev_model.specs.Move.{names_other}
use Rattle.rev_crawler.proofs.reads.names_other.Given as goal

abbrev pub invariant-loop-class : goal.invariant-loop-class
invariant-loop-class g l = names_other l.class l.store l.set ≡ false
