use Rattle.std.proofs.Common.{get_or, ◌∙◌, ap, arith}
use Rattle.std.proofs.lemmas.List.{get_or-replicate, length-set, take_all}
use Rattle.rev_figures.specs.Classes.{left_counts}
use Rattle.rev_figures.proofs.Tallies.{left_more, few_first}
use Rattle.rev_figures.proofs.by_class.count_left_by_class.Goals as goal

pub loop-leaving-init : goal.loop-leaving-init
loop-leaving-init g c = record {
  wide = omega (arith, c.in_ok-counts.counts.ok.0, c.in_ok-counts.ensures.len);
  told = λ k d few. ap (λ t. get_or t k d) (c.in_ok-counts.ensures.items_if_clones_equal (λ y u. u)) ∙ get_or-replicate 256 k _ d few;
}

pub loop-leaving-preserved : goal.loop-leaving-preserved
loop-leaving-preserved g c =
    let i = c.loop-leaving.leaving-index in
    let xs = c.args.leavings.now in
    record {
      wide = length-set c.loop-leaving.counts.items c.place_of-class.result c.with_leaving.result ∙ c.loop-leaving.invariant.wide;
      told = left_more c.loop-leaving.counts.items xs i _ c.place_of-class.result c.index.result.now c.with_leaving.result
          c.loop-leaving-test.true (few_first xs i c.loop-leaving-test.true (omega (arith, c.requires))) c.place_of-class.ensures.within c.place_of-class.ensures.value c.loop-leaving.invariant.wide c.index.ensures c.with_leaving.ensures c.loop-leaving.invariant.told;
    }

pub returns : goal.returns
returns g c = record {
  count = c.loop-leaving.invariant.wide;
  counts = λ k d few. c.loop-leaving.invariant.told k d few ∙ ap (left_counts k) (take_all c.loop-leaving.leaving-index c.args.leavings.now c.loop-leaving-test.false);
}
