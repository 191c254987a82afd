use Rattle.std.proofs.Common.{◌-◌, length}
use Rattle.rev_tree.specs.Index.{branch_of}
use Rattle.rev_tree.proofs.Leads.{IsGathered}
use Rattle.rev_tree.proofs.index.Index.lead.Given as goal

abbrev pub invariant-up : goal.invariant-up
invariant-up g l = IsGathered l.self (branch_of l.self l.number) l.way.items l.branch

abbrev pub decreases-up : goal.decreases-up
decreases-up g l = 64 - length l.way.items
