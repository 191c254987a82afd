use Rattle.std.proofs.Common.{◌≡◌, ◌≤◌, ◌++◌, reverse}
use Rattle.rev_model.specs.State.{last_class}
use Rattle.rev_figures.specs.Rows.{bytes_to, bytes_rows}
use Rattle.rev_figures.proofs.walk.add_bytes.Given as goal

-- with the classes that are left, all rows are there
abbrev pub invariant-classes : goal.invariant-classes
invariant-classes g l = record {
  within : l.class ≤ last_class l.store;
  told : l.bytes.items ++ reverse (bytes_to l.store l.step l.class) ≡ l.fn.bytes.items ++ reverse (bytes_rows l.store l.step);
}

abbrev pub decreases-classes : goal.decreases-classes
decreases-classes g l = l.class
