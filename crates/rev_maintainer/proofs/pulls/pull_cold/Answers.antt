use Rattle.std.proofs.Common.{rules}
use Rattle.rev_maintainer.proofs.pulls.pull_cold.Goals as goal

pub returns-then-item-clause-done : goal.returns-then-item-clause-done
returns-then-item-clause-done g c = search rules steps 1500000

pub returns-then-item-clause-told : goal.returns-then-item-clause-told
returns-then-item-clause-told g c = search rules steps 500000

pub returns-clause-done : goal.returns-clause-done
returns-clause-done g c = search rules steps 1500000

pub returns-clause-told : goal.returns-clause-told
returns-clause-told g c = search rules steps 500000
