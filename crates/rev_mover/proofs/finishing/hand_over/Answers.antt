use Rattle.std.proofs.Common.{sym}
use Rattle.rev_edits.proofs.Telling.{tells_more}
use Rattle.rev_mover.proofs.Handing.{lay_possible, laid_sound, handed_class}
use Rattle.rev_mover.proofs.finishing.hand_over.Goals as goal

pub change-requires-clause-possible : goal.change-requires-clause-possible
change-requires-clause-possible g c =
    let parts = rw c.in-Some.is at c.requires.parts in
    rw (c.release.ensures.state, c.from-class.ensures, parts.1) (lay_possible c.args.store.now c.requires.sound c.args.mover c.requires.done.is c.requires.done.slot parts.0)

pub returns-in-Some-clause-state : goal.returns-in-Some-clause-state
returns-in-Some-clause-state g c =
    let parts = rw c.in-Some.is at c.requires.parts in
    rw (c.change.ensures.state, c.release.ensures.state, c.from-class.ensures, parts.1) (sym (handed_class c.args.store.now c.args.mover parts.0))

pub returns-in-Some-clause-sound : goal.returns-in-Some-clause-sound
returns-in-Some-clause-sound g c =
    let parts = rw c.in-Some.is at c.requires.parts in
    rw (c.change.ensures.state, c.release.ensures.state, c.from-class.ensures, parts.1) (laid_sound c.args.store.now c.requires.sound c.args.mover c.requires.done.is c.requires.done.slot parts.0)

pub returns-in-Some-clause-leads : goal.returns-in-Some-clause-leads
returns-in-Some-clause-leads g c = λ first l. c.change.ensures.leads first (c.release.ensures.leads first l)

pub returns-in-Some-clause-told : goal.returns-in-Some-clause-told
returns-in-Some-clause-told g c = tells_more _ _ _ _ _ _ _ c.release.ensures.told c.change.ensures.told
