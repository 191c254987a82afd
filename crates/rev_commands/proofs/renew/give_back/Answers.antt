use Rattle.std.specs.Prelude.{None}
use Rattle.rev_edits.proofs.Rest.{sound_of}
use Rattle.rev_edits.proofs.Linking.{held_loose}
use Rattle.rev_commands.proofs.Holding.{rest-freed}
use Rattle.rev_commands.proofs.renew.give_back.Goals as goal

pub returns-clause-sound : goal.returns-clause-sound
returns-clause-sound g c =
    let s = c.args.store.now in
    let loose = held_loose s c.args.chunk c.requires.sound c.args.class c.requires.class c.requires.chunk in
    sound_of None c.free.new.store c.free.ensures.well (rw c.free.ensures.state (rest-freed s c.args.class c.args.chunk loose c.requires.sound))
