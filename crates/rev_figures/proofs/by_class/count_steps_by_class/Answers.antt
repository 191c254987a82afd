use Rattle.std.proofs.Common.{get_or, ◌∙◌, ap, arith}
use Rattle.std.proofs.lemmas.List.{get_or-replicate, length-set, take_all}
use Rattle.rev_figures.specs.Classes.{step_counts}
use Rattle.rev_figures.proofs.Tallies.{steps_more, few_first}
use Rattle.rev_figures.proofs.by_class.count_steps_by_class.Goals as goal

pub loop-step-init : goal.loop-step-init
loop-step-init g c = record {
  wide = omega (arith, c.in_ok-counts.counts.ok.0, c.in_ok-counts.ensures.len);
  told = λ k d few. ap (λ t. get_or t k d) (c.in_ok-counts.ensures.items_if_clones_equal (λ y u. u)) ∙ get_or-replicate 256 k _ d few;
}

pub loop-step-preserved : goal.loop-step-preserved
loop-step-preserved g c =
    let i = c.loop-step.step-index in
    let xs = c.args.steps.now in
    record {
      wide = length-set c.loop-step.counts.items c.place_of-class.result c.with_step.result ∙ c.loop-step.invariant.wide;
      told = steps_more c.loop-step.counts.items xs i _ c.place_of-class.result c.index.result.now c.with_step.result
          c.loop-step-test.true (few_first xs i c.loop-step-test.true (omega (arith, c.requires))) c.place_of-class.ensures.within c.place_of-class.ensures.value c.loop-step.invariant.wide c.index.ensures c.with_step.ensures c.loop-step.invariant.told;
    }

pub returns : goal.returns
returns g c = record {
  count = c.loop-step.invariant.wide;
  counts = λ k d few. c.loop-step.invariant.told k d few ∙ ap (step_counts k) (take_all c.loop-step.step-index c.args.steps.now c.loop-step-test.false);
}
