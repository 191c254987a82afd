use Rattle.rev_commands.proofs.Standing.{found_stands}
use Rattle.rev_commands.proofs.look.lookup.Goals as goal

pub lookup_at-requires-clause-led : goal.lookup_at-requires-clause-led
lookup_at-requires-clause-led g c = found_stands c.args.store.now c.requires.sound.1.well c.args.key.now c.find-found.result c.find-found.ensures
