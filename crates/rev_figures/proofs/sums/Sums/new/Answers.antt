use Rattle.std.proofs.Common.{get_or, ◌∙◌, ap, arith}
use Rattle.std.proofs.lemmas.List.{get_or-replicate}
use Rattle.rev_figures.proofs.sums.Sums.new.Goals as goal

pub returns-clause-counts : goal.returns-clause-counts
returns-clause-counts g c = record {
  steps_wide = omega (arith, c.in_ok-vec.field-0.ok.0, c.in_ok-vec.ensures.len);
  lost_wide = omega (arith, c.in_ok-vec-2.field-0.ok.0, c.in_ok-vec-2.ensures.len);
  steps = λ k d few. ap (λ t. get_or t k d) (c.in_ok-vec.ensures.items_if_clones_equal (λ y u. u)) ∙ get_or-replicate 256 k _ d few;
  lost = λ k d few. ap (λ t. get_or t k d) (c.in_ok-vec-2.ensures.items_if_clones_equal (λ y u. u)) ∙ get_or-replicate 256 k _ d few;
}
