use Rattle.std.proofs.Common.{ap, ◌+◌}
use Rattle.rev_import.proofs.Filled.{filled}
use Rattle.rev_import.proofs.writing.put_filler.Goals as goal

pub returns : goal.returns
returns g c = filled c.resize.result _ _ _ _ _ (ap (λ n. n + c.args.size) c.len.ensures) c.args.out.now.ok.0 c.resize.ensures.items
