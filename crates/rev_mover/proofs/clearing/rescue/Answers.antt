use Rattle.rev_mover.proofs.Rescuing.{rescue_possible, rescue_is, rescue_sound}
use Rattle.std.proofs.Common.{◌∙◌, arith}
use Rattle.rev_edits.proofs.Telling.{tells_still}
use Rattle.rev_mover.proofs.clearing.rescue.Goals as goal

pub change-requires-clause-possible : goal.change-requires-clause-possible
change-requires-clause-possible g c = rw c.hold.ensures.state (rescue_possible c.args.store.now c.requires.sound c.args.class c.args.chunk c.args.to c.requires.item.0 c.requires.chunk c.requires.item.1 c.requires.free)

pub returns-clause-state : goal.returns-clause-state
returns-clause-state g c = λ i e. rw (c.change.ensures.state, c.hold.ensures.state) (rescue_is c.args.store.now c.requires.sound c.args.class c.args.chunk c.args.to i c.requires.chunk e c.requires.free)

pub returns-clause-sound : goal.returns-clause-sound
returns-clause-sound g c = rw (c.change.ensures.state, c.hold.ensures.state) (rescue_sound c.args.store.now c.requires.sound c.args.class c.args.chunk c.args.to c.requires.item.0 c.requires.chunk c.requires.item.1 c.requires.free)

pub returns-clause-leads : goal.returns-clause-leads
returns-clause-leads g c = λ first l. c.change.ensures.leads first (c.hold.ensures.leads first l)

pub returns-clause-told : goal.returns-clause-told
returns-clause-told g c = tells_still _ _ _ _ _ _ _ c.hold.ensures.told c.change.ensures.told

pub returns-clause-room : goal.returns-clause-room
returns-clause-room g c = c.change.ensures.room ∙ c.hold.ensures.room

pub returns-clause-made : goal.returns-clause-made
returns-clause-made g c = omega (arith, c.hold.ensures.made, c.change.ensures.made)
