use Rattle.std.proofs.Common.{◌&&◌, not, sym, ap, ◌∙◌}
use Rattle.std.specs.Option.{option_copied}
use Rattle.rev_evidence.specs.Heard.{is_hit}
use Rattle.rev_evidence.proofs.heard.is_hit.Goals as goal

pub returns-then-finds : goal.returns-then-finds
returns-then-finds g c =
    ap (λ b. b && not c.args.own) (sym c.if-finds.true ∙ c.finds.ensures)
    ∙ ap (λ e. is_hit (option_copied e) c.args.own) (sym c.in-Some.is)
