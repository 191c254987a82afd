use Rattle.rev_import.proofs.Written.{adds_none}
use Rattle.rev_import.proofs.setup.put_tuning.Goals as goal

pub returns-in-None : goal.returns-in-None
returns-in-None g c = rw c.in-None.is (adds_none c.args.out.now.items)
