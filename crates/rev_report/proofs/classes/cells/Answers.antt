use Rattle.std.proofs.Common.{refl}
use Rattle.rev_report.proofs.classes.cells.Goals as goal

pub returns : goal.returns
returns c = rw (c.from.ensures, c.cause_numbers.ensures, c.wide.ensures, c.wide-2.ensures) refl
