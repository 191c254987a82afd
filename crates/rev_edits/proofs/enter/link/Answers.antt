use Rattle.std.specs.Prelude.{None, length}
use Rattle.std.proofs.Common.{ap, ◌∙◌}
use Rattle.std.proofs.lemmas.List.{length-append}
use Rattle.rev_edits.proofs.Linking.{link_fill, link_bind, link_put, link_cas, linked_is, rest-linked}
use Rattle.rev_edits.proofs.Rest.{sound_of}
use Rattle.rev_edits.proofs.Telling.{tells_four}
use Rattle.rev_edits.proofs.enter.link.Goals as goal

pub make-requires-clause-possible : goal.make-requires-clause-possible
make-requires-clause-possible g c =
    let s = c.args.store.now in
    let well = c.requires.sound.well in
    let fresh = c.requires.fresh in
    let queue = c.queue_of_new-queue.result in
    ((((tt, link_fill s c.args.class c.args.chunk _ well fresh), link_bind s c.args.class c.args.chunk _ well fresh), link_put s c.args.class c.args.chunk _ well fresh queue), link_cas s c.args.class c.args.chunk _ well fresh queue _)

pub returns-clause-state : goal.returns-clause-state
returns-clause-state g c =
    rw (c.make.ensures.state, c.queue_of_new-queue.ensures, c.globals.ensures, c.moment.ensures, c.cas-cas.ensures)
    (linked_is c.args.store.now c.args.class c.args.chunk _)

pub returns-clause-sound : goal.returns-clause-sound
returns-clause-sound g c =
    sound_of None c.make.new.self c.make.ensures.well
    (rw (c.make.ensures.state, c.queue_of_new-queue.ensures, c.globals.ensures, c.moment.ensures, c.cas-cas.ensures)
    (rw (linked_is c.args.store.now c.args.class c.args.chunk _) (rest-linked c.args.store.now c.args.class c.args.chunk _ c.requires.sound c.requires.fresh c.requires.fits)))

pub returns-clause-made : goal.returns-clause-made
returns-clause-made g c = ap length c.make.ensures.moves ∙ length-append c.args.undo.now.moves _

pub returns-clause-told : goal.returns-clause-told
returns-clause-told g c =
    let s = c.args.store.now in
    let well = c.requires.sound.well in
    let fresh = c.requires.fresh in
    let queue = c.queue_of_new-queue.result in
    tells_four _ _ _ _ _ _ None None None None s _ well
    (link_fill s c.args.class c.args.chunk _ well fresh)
    (link_bind s c.args.class c.args.chunk _ well fresh)
    (link_put s c.args.class c.args.chunk _ well fresh queue)
    (link_cas s c.args.class c.args.chunk _ well fresh queue _)
    c.make.ensures.state c.make.ensures.moves c.make.ensures.notes
