use Rattle.std.proofs.Common.{◌≡◌, length}
use Rattle.rev_figures.specs.Classes.{AreFigures}
use Rattle.rev_figures.proofs.classes.class_figures.Given as goal

-- the classes up to the next one are told
abbrev pub invariant-loop-before : goal.invariant-loop-before
invariant-loop-before g l = record {
  count : length l.rows.items ≡ l.before;
  told : AreFigures l.path.steps.items l.path.leavings.items l.rows.items;
}
