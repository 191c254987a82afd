use Rattle.std.proofs.Common.{◌≡◌}
use Rattle.rev_tree.specs.Links.{mentions_of, IsLinked}
use Rattle.rev_tree.proofs.links.relink.Given as goal

abbrev pub invariant-loop-at : goal.invariant-loop-at
invariant-loop-at l = record {
  same : mentions_of l.entries ≡ mentions_of l.initial.entries;
  linked : IsLinked l.heads l.entries l.at;
}
