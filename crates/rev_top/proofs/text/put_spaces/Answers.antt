use Rattle.std.proofs.Common.{ap, ◌+◌}
use Rattle.rev_top.proofs.Spaces.{filled}
use Rattle.rev_top.proofs.text.put_spaces.Goals as goal

pub returns : goal.returns
returns g c = filled c.resize.result _ _ _ _ _ (ap (λ n. n + c.args.count) c.len.ensures) c.args.out.now.ok.0 c.resize.ensures.items
