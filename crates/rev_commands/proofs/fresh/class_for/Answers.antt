use Rattle.std.specs.Prelude.{length}
use Rattle.rev_commands.proofs.Sizes.{too_large}
use Rattle.rev_commands.proofs.fresh.class_for.Goals as goal

pub returns-then-data_length-gt-MAX_DATA-clause-class : goal.returns-then-data_length-gt-MAX_DATA-clause-class
returns-then-data_length-gt-MAX_DATA-clause-class g c = too_large c.args.store.now.fixed c.requires.sound.kept.table (length c.args.key.now) c.args.flags c.args.data_length c.if-data_length-gt-MAX_DATA.true
