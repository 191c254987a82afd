use Rattle.std.proofs.Common.{◌≡◌, ◌<◌, List, length, get_or, refl, ◌∙◌, ap, arith}
use Rattle.rev_figures.specs.Sums.{capped_steps, capped_lost}
use Rattle.rev_figures.proofs.sums.Sums.figures.Goals as goal

pub returns : goal.returns
returns g c = λ ss ls w.
    let class = c.args.class in
    let few : class < 256 = omega (arith, c.ranges.class.fits) in
    let steps : c.steps_of-steps.result ≡ capped_steps class ss =
    c.steps_of-steps.ensures c.steps_of-steps.result (omega (arith, few, ap length c.deref.ensures.value, w.steps_wide))
    ∙ ap (λ l. get_or l class c.steps_of-steps.result) c.deref.ensures.value
    ∙ w.steps class c.steps_of-steps.result few in
    let lost : c.lost_of-lost.result ≡ capped_lost class ls =
    c.lost_of-lost.ensures c.lost_of-lost.result (omega (arith, few, ap length c.deref-2.ensures.value, w.lost_wide))
    ∙ ap (λ l. get_or l class c.lost_of-lost.result) c.deref-2.ensures.value
    ∙ w.lost class c.lost_of-lost.result few in
    record {
      class = refl;
      stores = ap (λ n. n.stores) steps;
      hits = ap (λ n. n.hits) steps;
      left = ap (λ n. n.left) lost;
      evicted = ap (λ n. n.evicted) lost;
      unfetched = ap (λ n. n.unfetched) lost;
    }
