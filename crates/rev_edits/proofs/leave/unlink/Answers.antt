use Rattle.std.specs.Prelude.{None, length}
use Rattle.std.proofs.Common.{ap, subst, ◌∙◌}
use Rattle.std.proofs.lemmas.List.{length-append}
use Rattle.rev_model.proofs.Drops.{drop_take, drop_unbind, drop_fill}
use Rattle.rev_model.specs.State.{item_at}
use Rattle.rev_model.specs.Track.{removal}
use Rattle.rev_inverse.specs.Telling.{Tells}
use Rattle.rev_edits.proofs.Telling.{append_nil, tells_three}
use Rattle.rev_edits.proofs.leave.unlink.Goals as goal

pub make-requires-clause-possible : goal.make-requires-clause-possible
make-requires-clause-possible g c =
    let s = c.args.store.now in
    let stands = c.requires.stands.1 in
    (((tt, drop_take s c.requires.well c.args.class c.args.queue c.args.chunk _ stands), drop_unbind s c.requires.well c.args.class c.args.queue c.args.chunk _ stands), drop_fill s c.requires.well c.args.class c.args.queue c.args.chunk _ stands)

pub returns-clause-made : goal.returns-clause-made
returns-clause-made g c = ap length c.make.ensures.moves ∙ length-append c.args.undo.now.moves _

pub returns-clause-told : goal.returns-clause-told
returns-clause-told g c =
    let s = c.args.store.now in
    let stands = c.requires.stands.1 in
    subst (Tells c.args.undo.now s c.make.new.undo c.make.new.self) (append_nil (removal (item_at s c.args.chunk) c.args.cause))
    (tells_three _ _ _ _ _ None c.args.cause None s _ c.requires.well
    (drop_take s c.requires.well c.args.class c.args.queue c.args.chunk _ stands)
    (drop_unbind s c.requires.well c.args.class c.args.queue c.args.chunk _ stands)
    (drop_fill s c.requires.well c.args.class c.args.queue c.args.chunk _ stands)
    c.make.ensures.state c.make.ensures.moves c.make.ensures.notes)
