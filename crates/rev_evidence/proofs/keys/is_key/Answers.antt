use Rattle.rev_evidence.proofs.Named.{same_named}
use Rattle.rev_evidence.proofs.keys.is_key.Goals as goal

pub returns : goal.returns
returns g c = same_named c.is_same.result c.args.a.now c.args.b.now c.is_same.ensures.0 c.is_same.ensures.1
