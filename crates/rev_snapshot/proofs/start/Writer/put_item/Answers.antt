use Rattle.std.proofs.Common.{sym, ◌∙◌}
use Rattle.std.proofs.lemmas.Result.{on_ok_weaker}
use Rattle.rev_snapshot.proofs.Starting.{item_left, item_stored}
use Rattle.rev_snapshot.proofs.start.Writer.put_item.Goals as goal

pub returns-then-is_too_large : goal.returns-then-is_too_large
returns-then-is_too_large g c = item_left _ c.args.placed.now (sym c.is_too_large.ensures ∙ c.if-is_too_large.true)

pub returns : goal.returns
returns g c =
    on_ok_weaker c.put_by_queue.result (λ x. item_stored c.args.placed.now (sym c.is_too_large.ensures ∙ c.if-is_too_large.false) c.in_ok-set_clock.ensures x) c.put_by_queue.ensures
