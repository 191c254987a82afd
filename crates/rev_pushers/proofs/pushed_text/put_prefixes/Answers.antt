use Rattle.std.proofs.Common.{◌+◌, ◌<◌, ◌∷◌, drop, map, length, sym, ap, ◌∙◌, arith}
use Rattle.std.proofs.lemmas.List.{at_drop_more}
use Rattle.rev_pushers.specs.Joins.{behind}
use Rattle.rev_pushers.specs.Pushed.{plain_share}
use Rattle.rev_pushers.specs.PushedTexts.{prefix_parts, with_prefixes}
use Rattle.rev_pushers.proofs.pushed_text.put_prefixes.Goals as goal

pub loop-share-preserved : goal.loop-share-preserved
loop-share-preserved g c =
    let rest = drop (c.loop-share.share-index + 1) c.args.shares.now in
    let lt : c.loop-share.share-index < length c.args.shares.now = omega (arith, c.loop-share-test.true) in
    ap (λ x. with_prefixes x (map plain_share rest))
    (c.in_ok-put_prefix.ensures ∙ ap (λ p. behind c.loop-share.out.items (prefix_parts p c.share-item.result.amount)) c.as_slice.ensures.value)
    ∙ sym
    (at_drop_more (λ ss. with_prefixes c.loop-share.out.items (map plain_share ss)) c.args.shares.now c.loop-share.share-index _ lt
    ∙ ap (λ s. with_prefixes c.loop-share.out.items (map plain_share (s ∷ rest))) (sym c.share-item.is))
    ∙ c.loop-share.invariant
