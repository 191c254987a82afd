use Rattle.std.proofs.Common.{rules}
use Rattle.rev_pages.proofs.table.Table.close.Goals as goal

pub returns-clause-value : goal.returns-clause-value
returns-clause-value g c = search rules steps 1500000
