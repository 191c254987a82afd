use Rattle.std.proofs.Common.{◌∙◌, ap, cond}
use Rattle.rev_model.specs.Track.{same_key}
use Rattle.rev_figures.specs.Asking.{ask_in}
use Rattle.rev_figures.proofs.Asking.{ask-insert}
use Rattle.rev_figures.proofs.asks.Asks.put.Goals as goal

pub returns : goal.returns
returns g c = λ k.
    ap (λ es. ask_in es k) c.in_ok-insert.ensures.entries
    ∙ ask-insert k c.in_ok-bytes.bytes c.args.ask c.args.self.now.keys.entries
    ∙ ap (λ l. cond (same_key k l) c.args.ask (ask_in c.args.self.now.keys.entries k)) (c.in_ok-bytes.ensures.items ∙ c.bytes.ensures.same)
