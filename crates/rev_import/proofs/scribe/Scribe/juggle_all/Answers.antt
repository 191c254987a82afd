use Rattle.std.proofs.lemmas.Result.{on_ok_weaker}
use Rattle.rev_import.proofs.Written.{more, writes_none}
use Rattle.rev_import.proofs.scribe.Scribe.juggle_all.Goals as goal

pub loop-class-init : goal.loop-class-init
loop-class-init g c = writes_none _

pub loop-class-preserved : goal.loop-class-preserved
loop-class-preserved g c = more c.loop-class.invariant c.in_ok-juggle_stored.ensures

pub returns : goal.returns
returns g c = on_ok_weaker c.bump.result (λ x. more c.loop-class.invariant x) c.bump.ensures
