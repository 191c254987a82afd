use Rattle.std.proofs.Common.{◌++◌, reverse, arith}
use Rattle.rev_figures.specs.Rows.{bytes_rows}
use Rattle.rev_figures.proofs.Counts.{bytes_less}
use Rattle.rev_figures.proofs.walk.add_bytes.Goals as goal

pub classes-preserved : goal.classes-preserved
classes-preserved g c = record {
  within = omega (arith, c.classes.invariant.within);
  told = bytes_less c.args.store.now c.args.step c.classes.class c.classes.bytes.items c.add_class_bytes.new.bytes.items (c.args.bytes.now.items ++ reverse (bytes_rows c.args.store.now c.args.step))
      (omega (arith, c.classes-test.true)) c.in_ok-add_class_bytes.ensures c.classes.invariant.told;
}
