use Rattle.std.proofs.Common.{◌||◌, sym, ◌∙◌, ap}
use Rattle.std.specs.List.{list_any}
use Rattle.std.specs.Str.{bytes_eq}
use Rattle.rev_evidence.specs.Sampling.{has}
use Rattle.rev_evidence.proofs.sampling.Sampling.has.Goals as goal

pub returns-then-takes : goal.returns-then-takes
returns-then-takes g c =
    c.if-takes.true
    ∙ sym (ap (λ takes. takes || list_any (bytes_eq c.args.key.now) c.self.inside.kept.keys) (sym c.takes.ensures ∙ c.if-takes.true))
    ∙ ap (λ sampling. has sampling c.args.key.now) c.self.view_is
