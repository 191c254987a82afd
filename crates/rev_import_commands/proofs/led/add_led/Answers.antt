use Rattle.rev_import_commands.proofs.Reports.{tells_led}
use Rattle.rev_import_commands.proofs.led.add_led.Goals as goal

pub returns-in-Ok : goal.returns-in-Ok
returns-in-Ok c = tells_led _ c.deref.result.now _ _ _ _ _ _ _ c.in_ok-put_led.ensures c.in-Ok.ensures
