use Rattle.std.proofs.Common.{rules}
use Rattle.std.proofs.lemmas.List.Sorted.{IsNonDecreasingBy-from_sort_by_key, IsPermutation-trans}
use Rattle.rev_figures.specs.Prefixes.{below_most}
use Rattle.rev_figures.proofs.prefixes.arrange.Goals as goal

pub returns-clause-same : goal.returns-clause-same
returns-clause-same g c = IsPermutation-trans _ _ _ c.in_ok-sort_by_key.ensures.permutation c.in_ok-sort_by_key-2.ensures.permutation

pub returns-clause-falling : goal.returns-clause-falling
returns-clause-falling g c = IsNonDecreasingBy-from_sort_by_key below_most _ c.in_ok-sort_by_key-2.ensures.sorted (λ a r q k. search rules)
