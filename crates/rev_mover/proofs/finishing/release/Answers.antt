use Rattle.rev_mover.proofs.Handing.{lift_possible, pooled_sound}
use Rattle.rev_mover.proofs.finishing.release.Goals as goal

pub change-requires-clause-possible : goal.change-requires-clause-possible
change-requires-clause-possible g c = lift_possible c.args.store.now c.requires.sound c.args.mover c.requires.done.is c.requires.done.slot

pub returns-clause-sound : goal.returns-clause-sound
returns-clause-sound g c =
    rw (c.change-2.ensures.state, c.change.ensures.state)
    (pooled_sound c.args.store.now c.requires.sound c.args.mover c.requires.done.is c.requires.done.slot)

pub returns-clause-leads : goal.returns-clause-leads
returns-clause-leads g c = λ first l. c.change-2.ensures.leads first (c.change.ensures.leads first l)
