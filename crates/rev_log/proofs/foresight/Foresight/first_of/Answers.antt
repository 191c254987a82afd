use Rattle.std.proofs.Common.{◌∙◌, sym, ap}
use Rattle.std.specs.Option.{option_copied}
use Rattle.rev_log.specs.Foresight.{first_naming}
use Rattle.rev_log.proofs.Finding.{at_any}
use Rattle.rev_log.proofs.Spanning.{first}
use Rattle.rev_log.proofs.Sound.{found-first}
use Rattle.rev_log.proofs.foresight.Foresight.first_of.Goals as goal

pub returns-in_err-span : goal.returns-in_err-span
returns-in_err-span g c =
    ap option_copied c.from_residual.ensures
    ∙ ap (λ s. at_any c.self.inside.first c.self.inside.waiting.items (first s)) (sym c.in_err-span.was ∙ c.get.ensures)
    ∙ found-first c.self.invariant c.args.key.now
    ∙ ap (λ f. first_naming c.args.key.now f.waiting) c.self.view_is

pub returns : goal.returns
returns g c =
    c.at_number.ensures
    ∙ ap (λ s. at_any c.self.inside.first c.self.inside.waiting.items (first s)) (sym c.in_ok-span.was ∙ c.get.ensures)
    ∙ found-first c.self.invariant c.args.key.now
    ∙ ap (λ f. first_naming c.args.key.now f.waiting) c.self.view_is
