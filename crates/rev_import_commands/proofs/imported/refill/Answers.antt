use Rattle.rev_import_commands.proofs.Feeds.{fed_on}
use Rattle.rev_import_commands.proofs.imported.refill.Goals as goal

pub returns-in-Err-clause-bytes : goal.returns-in-Err-clause-bytes
returns-in-Err-clause-bytes g c = fed_on _ _ _ _ _ _ c.loop.invariant.bytes c.in-Err.ensures.bytes

pub loop-preserved : goal.loop-preserved
loop-preserved g c = record {
  bytes = fed_on _ _ _ _ _ _ c.loop.invariant.bytes c.in-Ok.ensures.bytes;
  end = λ first more. c.in-Ok.ensures.end more;
}
