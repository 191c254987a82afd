use Rattle.std.proofs.lemmas.Bool.{lt-ltb}
use Rattle.rev_import_commands.proofs.import.add_sample.Goals as goal

pub returns-then-one_of-gt1 : goal.returns-then-one_of-gt1
returns-then-one_of-gt1 c = rw (lt-ltb _ _ c.if-one_of-gt1.true) c.put_sample.ensures
