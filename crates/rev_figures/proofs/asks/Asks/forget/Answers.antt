use Rattle.std.proofs.Common.{sym, ◌∙◌}
use Rattle.rev_figures.specs.Asking.{ask_in}
use Rattle.rev_figures.proofs.Asking.{said_none}
use Rattle.rev_figures.proofs.asks.Asks.forget.Goals as goal

pub returns-then-is_none : goal.returns-then-is_none
returns-then-is_none g c = λ k.
    said_none (λ l. ask_in c.args.self.now.keys.entries l) k c.args.key.now (sym c.get-ask.ensures ∙ c.is_none.ensures c.if-is_none.true)
