use Rattle.std.proofs.Common.{◌≡◌, ℕ, false, Option, Some, None, refl, sym, ◌∙◌}
use Rattle.std.proofs.lemmas.Bool.{true≢false}
use Rattle.std.specs.Borrow.{Bor}
use Rattle.std.specs.Option.{is_some, option_copied}
use Rattle.std.specs.Prelude.{◌||◌, nat_lt}
use Rattle.rev_top.specs.declared.figures.Figures.{Figures}
use Rattle.rev_top.proofs.table.Table.has_room.Goals as goal

-- a name that is not there has room where the table has
has_no_row : (o : Option (Bor Figures)) (l : Option Figures) (n m : ℕ) → option_copied o ≡ l → is_some o ≡ false → n ≡ m → nat_lt n 4096 ≡ (is_some l || nat_lt m 4096)
has_no_row None l n m e none s = rw (← e, s) refl
has_no_row (Some x) l n m e none s = absurd (true≢false none)

pub returns-else-is_some : goal.returns-else-is_some
returns-else-is_some g c = has_no_row c.get.result _ c.len.result _ c.get.ensures.value (sym c.is_some.ensures ∙ c.if-is_some.false) c.len.ensures.len
