use Rattle.std.proofs.Common.{rules}
use Rattle.rev_script.proofs.lines.Lines.next.Goals as goal

pub returns-in-Err-clause-kept : goal.returns-in-Err-clause-kept
returns-in-Err-clause-kept g c = search rules steps 500000
