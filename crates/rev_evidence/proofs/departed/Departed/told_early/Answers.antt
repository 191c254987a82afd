use Rattle.std.proofs.Common.{◌∙◌, ap}
use Rattle.rev_evidence.specs.Departed.{told_in}
use Rattle.rev_evidence.proofs.Parts.{told_in-lookup}
use Rattle.rev_evidence.proofs.departed.Departed.told_early.Goals as goal

pub returns : goal.returns
returns g c =
    c.copied.ensures ∙ c.get.ensures.value
    ∙ told_in-lookup c.args.key.now c.self.inside.early.entries
    ∙ ap (λ d. told_in d.early c.args.key.now) c.self.view_is
