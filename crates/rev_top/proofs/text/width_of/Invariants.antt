use Rattle.std.proofs.Common.{◌≡◌, drop}
use Rattle.rev_top.specs.Texts.{widest}
use Rattle.rev_top.proofs.text.width_of.Given as goal

-- the width so far, with the rows that are left, is that of all
abbrev pub invariant-loop-row : goal.invariant-loop-row
invariant-loop-row g l = widest l.width (drop l.row-index l.rows) ≡ widest 6 l.rows
