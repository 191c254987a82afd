use Rattle.std.proofs.Common.{sym, ◌∙◌, ap}
use Rattle.rev_log.proofs.Steps.{restart-then}
use Rattle.rev_log.proofs.order.Order.is_restart.Goals as goal

pub returns-then-line-greatest : goal.returns-then-line-greatest
returns-then-line-greatest g c =
    restart-then c.args.self.now.greatest c.in-Some.greatest c.args.line.now c.is_much_later.result (sym (ap (λ o. o.greatest) c.self.view_is) ∙ c.in-Some.is) c.if-line-greatest.true c.is_much_later.ensures
