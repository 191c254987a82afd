use Rattle.std.proofs.Common.{rules}
use Rattle.rev_edits.proofs.alter.raise.Goals as goal

pub returns-clause-state : goal.returns-clause-state
returns-clause-state g c = search rules steps 4000000
