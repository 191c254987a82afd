use Rattle.std.proofs.Common.{◌∙◌, ap, cond}
use Rattle.rev_model.specs.Track.{same_key}
use Rattle.rev_figures.specs.Asks.{asked_by}
use Rattle.rev_figures.specs.Asking.{ask_in}
use Rattle.rev_figures.specs.declared.path.StepKind.TheVariants as kind
use Rattle.rev_figures.proofs.Asking.{said_again}
use Rattle.rev_figures.proofs.asks.Asks.note_miss.Goals as goal

pub returns : goal.returns
returns g c = λ k.
    c.in_ok-put.ensures k
    ∙ ap (λ a. cond (same_key k c.args.key.now) a (ask_in c.args.self.now.keys.entries k)) (c.ask_before-ask.ensures ∙ ap (asked_by kind.Miss c.args.second) c.get.ensures)
    ∙ said_again (λ l. ask_in c.args.self.now.keys.entries l) (asked_by kind.Miss c.args.second) k c.args.key.now
