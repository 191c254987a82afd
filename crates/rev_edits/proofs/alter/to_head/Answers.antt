use Rattle.std.specs.Prelude.{None, length}
use Rattle.std.proofs.Common.{ap, ◌∙◌}
use Rattle.std.proofs.lemmas.List.{length-append}
use Rattle.rev_model.proofs.Places.{queue_in}
use Rattle.rev_model.proofs.Keeps.{keeps-take_queue, keeps-to_head}
use Rattle.rev_model.specs.declared.Entry.TheVariants.{Chunk}
use Rattle.rev_edits.proofs.Telling.{tells_two}
use Rattle.rev_edits.proofs.alter.to_head.Goals as goal

pub make-requires-clause-possible : goal.make-requires-clause-possible
make-requires-clause-possible g c =
    let s = c.args.store.now in
    let from = queue_in s c.requires.well c.args.class c.requires.class c.args.from in
    let to = queue_in s c.requires.well c.args.class c.requires.class c.args.to in
    ((tt, keeps-take_queue s c.requires.well c.args.class c.args.from (Chunk c.args.chunk) (from, c.requires.there)), keeps-to_head s c.requires.well c.args.class c.args.from c.args.to c.args.chunk (from, c.requires.there) to)

pub returns-clause-made : goal.returns-clause-made
returns-clause-made g c = ap length c.make.ensures.moves ∙ length-append c.args.undo.now.moves _

pub returns-clause-told : goal.returns-clause-told
returns-clause-told g c =
    let s = c.args.store.now in
    let from = queue_in s c.requires.well c.args.class c.requires.class c.args.from in
    let to = queue_in s c.requires.well c.args.class c.requires.class c.args.to in
    tells_two _ _ _ _ None None s _ c.requires.well
    (keeps-take_queue s c.requires.well c.args.class c.args.from (Chunk c.args.chunk) (from, c.requires.there))
    (keeps-to_head s c.requires.well c.args.class c.args.from c.args.to c.args.chunk (from, c.requires.there) to)
    c.make.ensures.state c.make.ensures.moves c.make.ensures.notes
