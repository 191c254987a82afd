use Rattle.std.proofs.Common.{refl}
use Rattle.rev_import_commands.proofs.import.leads.Goals as goal

pub returns-in-Rules : goal.returns-in-Rules
returns-in-Rules c = rw c.in-Rules.is refl
