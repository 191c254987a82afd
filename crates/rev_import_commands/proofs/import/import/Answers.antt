use Rattle.rev_import_commands.proofs.Reports.{tells_by_led, tells_by_rules}
use Rattle.rev_import_commands.proofs.import.import.Goals as goal

pub returns-then-leads : goal.returns-then-leads
returns-then-leads g c = tells_by_led _ _ _ _ c.leads.ensures c.if-leads.true c.import_led.ensures

pub returns-else-leads : goal.returns-else-leads
returns-else-leads g c = tells_by_rules _ _ _ _ c.leads.ensures c.if-leads.false c.import_free.ensures
