use Rattle.std.proofs.Common.{◌∙◌, sym, ap, refl}
use Rattle.std.specs.Option.{option_copied}
use Rattle.rev_index.proofs.Maps.{same_named}
use Rattle.rev_index.proofs.seek.has_key.Goals as goal

pub returns-in-Some : goal.returns-in-Some
returns-in-Some g c =
    let e = sym c.item.ensures ∙ ap option_copied c.in-Some.is in
    rw e (same_named c.has_key.result c.args.key.now c.in-Some.item.now c.has_key.ensures.0 c.has_key.ensures.1)

pub returns-in-None : goal.returns-in-None
returns-in-None g c =
    let e = sym c.item.ensures ∙ ap option_copied c.in-None.is in
    rw e refl
