use Rattle.std.specs.Prelude.{None}
use Rattle.std.proofs.Common.{sym, subst, ◌∙◌}
use Rattle.rev_model.specs.State.{item_at}
use Rattle.rev_model.proofs.Places.{glanced}
use Rattle.rev_edits.proofs.Rest.{Rest, rest_of, sound_of, rest-touched}
use Rattle.rev_commands.proofs.touch.set_moment.Goals as goal

pub returns-in-Some-clause-sound : goal.returns-in-Some-clause-sound
returns-in-Some-clause-sound g c =
    let s = c.args.store.now in
    let i = glanced (item_at s c.args.chunk) c.in-Some.item (sym c.header.ensures ∙ c.in-Some.is) in
    sound_of None c.retouch.new.store c.retouch.ensures.well
    (subst (Rest None) (sym (c.retouch.ensures.state i.0 i.1)) (rest-touched None s c.args.chunk _ i.0 i.1 (rest_of None s c.requires.sound)))
