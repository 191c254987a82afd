use Rattle.std.proofs.Common.{◌+◌, ◌<◌, ◌∷◌, drop, length, sym, ap, ◌∙◌, arith}
use Rattle.std.proofs.lemmas.List.{at_drop_more}
use Rattle.rev_life.specs.Texts.{with_all_ended}
use Rattle.rev_life.proofs.text.put_all_ended.Goals as goal

pub loop-life-preserved : goal.loop-life-preserved
loop-life-preserved g c =
    let behind = drop (c.loop-life.life-index + 1) c.args.ended.now in
    let lt : c.loop-life.life-index < length c.args.ended.now = omega (arith, c.loop-life-test.true) in
    ap (λ x. with_all_ended x c.args.key.now behind) c.in_ok-put_ended.ensures
    ∙ sym
    (at_drop_more (with_all_ended c.loop-life.out.items c.args.key.now) c.args.ended.now c.loop-life.life-index _ lt
    ∙ ap (λ e. with_all_ended c.loop-life.out.items c.args.key.now (e ∷ behind)) (sym c.life-item.is))
    ∙ c.loop-life.invariant
