use Rattle.std.proofs.Common.{refl, sym, ◌∙◌}
use Rattle.rev_top.proofs.lines.prefix_part.Goals as goal

pub returns-else-is_empty : goal.returns-else-is_empty
returns-else-is_empty c = rw (sym c.is_empty.ensures ∙ c.if-is_empty.false) refl
