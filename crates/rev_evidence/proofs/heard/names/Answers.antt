use Rattle.std.proofs.Common.{sym, ap, ◌∙◌}
use Rattle.std.specs.Option.{option_copied}
use Rattle.rev_evidence.specs.Heard.{is_named}
use Rattle.rev_evidence.proofs.heard.names.Goals as goal

pub returns-in-Some : goal.returns-in-Some
returns-in-Some g c =
    c.is_key.ensures
    ∙ ap (λ l. is_named (option_copied l) c.args.key.now) (sym c.in-Some.is)
    ∙ ap (λ l. is_named l c.args.key.now) c.named.ensures
