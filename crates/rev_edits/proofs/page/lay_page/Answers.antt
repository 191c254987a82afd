use Rattle.std.specs.Prelude.{refl}
use Rattle.rev_model.proofs.Laying.{page_is}
use Rattle.rev_edits.proofs.page.lay_page.Goals as goal

pub change-requires-clause-possible : goal.change-requires-clause-possible
change-requires-clause-possible g c =
    let n = page_is c.args.store.now c.requires.sound c.args.class c.requires.class.0 c.requires.class.1 c.args.page.page c.args.page.form c.requires.page in
    rw c.requires.parts n.possible

pub returns-clause-state : goal.returns-clause-state
returns-clause-state g c = rw (c.change.ensures.state, c.requires.parts, c.requires.page) refl

pub returns-clause-sound : goal.returns-clause-sound
returns-clause-sound g c =
    let n = page_is c.args.store.now c.requires.sound c.args.class c.requires.class.0 c.requires.class.1 c.args.page.page c.args.page.form c.requires.page in
    rw (c.change.ensures.state, c.requires.parts) n.sound

pub returns-clause-chunks : goal.returns-clause-chunks
returns-clause-chunks g c =
    let n = page_is c.args.store.now c.requires.sound c.args.class c.requires.class.0 c.requires.class.1 c.args.page.page c.args.page.form c.requires.page in
    rw (c.change.ensures.state, c.requires.parts) n.chunks
