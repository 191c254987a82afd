use Rattle.std.proofs.Common.{w32}
use Rattle.std.proofs.lemmas.Int.{to_z-of_z}
use Rattle.std.proofs.lemmas.Result.{on_ok_weaker}
use Rattle.rev_import.proofs.Written.{stored, more}
use Rattle.rev_snapshot.proofs.start.put_set.Goals as goal

pub returns : goal.returns
returns g c = on_ok_weaker c.put_hits.result (λ x. more (stored _ _ (to_z-of_z w32 c.args.exptime c.ranges.exptime) c.in_ok-put_store.ensures) x) c.put_hits.ensures
