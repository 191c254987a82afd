use Rattle.std.proofs.Common.{refl, sym}
use Rattle.rev_top.proofs.MoreRows.{rows_on}
use Rattle.rev_top.proofs.rows.all_rows.Goals as goal

pub loop-place-preserved : goal.loop-place-preserved
loop-place-preserved g c =
    rows_on c.args.by_class c.args.table.now.rows.entries c.loop-place.place c.loop-place.rows.items c.push.new.self.items (c.in-Some.name.now, c.in-Some.figures.now)
    record { name = c.named.result; figures = c.in-Some.figures.now; lived = c.of.result } c.as_slice.result.now
    c.loop-place.invariant (sym c.in-Some.ensures.entry) c.as_slice.ensures.value c.named.ensures refl c.in_ok-push-in-Some.ensures.items
