use Rattle.std.specs.Prelude.{ℕ, None, ◌<◌, length}
use Rattle.std.proofs.Common.{sym, subst}
use Rattle.rev_model.specs.State.{State, item_at}
use Rattle.rev_model.proofs.Places.{glanced}
use Rattle.rev_edits.proofs.Rest.{Rest, rest_of, sound_of, rest-touched}
use Rattle.rev_commands.proofs.Hitting.{keeps-bump_in, rest-bumped}
use Rattle.rev_commands.proofs.hit.ask_bump.Goals as goal

pub change-requires-clause-possible : goal.change-requires-clause-possible
change-requires-clause-possible g c =
    let s = c.args.store.now in
    let i = glanced (item_at s c.args.chunk) c.args.item c.requires.item in
    let lt : length s.bump < s.fixed.bump_room = rw (← c.bump_len.ensures) (subst (λ (p : ℕ × ℕ). c.bump_len.result < p.1) c.limits-pages.ensures c.if-bump_len-most.true) in
    keeps-bump_in c.retouch.new.store c.retouch.ensures.well _ (subst (λ (t : State). length t.bump < t.fixed.bump_room) (sym (c.retouch.ensures.state i.0 i.1)) lt)

pub returns-then-bump_len-most-clause-sound : goal.returns-then-bump_len-most-clause-sound
returns-then-bump_len-most-clause-sound g c =
    let s = c.args.store.now in
    let i = glanced (item_at s c.args.chunk) c.args.item c.requires.item in
    sound_of None c.change.new.store c.change.ensures.well
    (rw c.change.ensures.state (rest-bumped None c.retouch.new.store _ (subst (Rest None) (sym (c.retouch.ensures.state i.0 i.1)) (rest-touched None s c.args.chunk _ i.0 i.1 (rest_of None s c.requires.sound)))))

pub returns-then-bump_len-most-clause-leads : goal.returns-then-bump_len-most-clause-leads
returns-then-bump_len-most-clause-leads g c = λ first l. c.change.ensures.leads first (c.retouch.ensures.leads first l)
