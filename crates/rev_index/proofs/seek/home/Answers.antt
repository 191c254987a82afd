use Rattle.std.proofs.Common.{◌∙◌, ◌%◌, sym, ap, subst, length}
use Rattle.std.specs.Option.{option_copied}
use Rattle.rev_index.specs.Index.{IsHome}
use Rattle.rev_index.proofs.seek.home.Goals as goal

pub unreachable-requires : goal.unreachable-requires
unreachable-requires g c =
    let e = sym c.item.ensures ∙ ap option_copied c.in-None.is in
    let k = rw e at c.requires.item in
    cc

pub returns : goal.returns
returns g c =
    let e = sym c.item.ensures ∙ ap option_copied c.in-Some.is in
    subst (λ o. IsHome (length c.args.chains.now.ends.items) c.bucket.result.number o) (sym e) (sym (c.bucket.ensures ∙ ap (λ h. h % length c.args.chains.now.ends.items) c.hash.ensures))
