use Rattle.std.proofs.Common.{◌<◌, length, arith}
use Rattle.rev_import.proofs.Written.{writes_none}
use Rattle.rev_snapshot.proofs.Starting.{next_item}
use Rattle.rev_snapshot.proofs.start.Writer.put_items.Goals as goal

pub loop-placed-init : goal.loop-placed-init
loop-placed-init g c = writes_none _

pub loop-placed-preserved : goal.loop-placed-preserved
loop-placed-preserved g c =
    let within : c.loop-placed.placed-index < length c.args.items.now = omega arith in
    next_item _ _ c.placed-item.result within c.placed-item.is c.loop-placed.invariant c.in_ok-put_item.ensures
