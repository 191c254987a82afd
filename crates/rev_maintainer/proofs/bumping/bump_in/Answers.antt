use Rattle.std.specs.Prelude.{None, drop}
use Rattle.std.proofs.Common.{sym, ◌∙◌, ap, subst}
use Rattle.std.specs.Prelude.{◌≡◌, Some}
use Rattle.std.specs.Option.{option_map}
use Rattle.rev_model.specs.Words.{header_of}
use Rattle.rev_model.specs.State.{State, owner_of, item_at}
use Rattle.rev_edits.proofs.Rest.{Rest, rest_of, sound_of}
use Rattle.rev_edits.proofs.Seats.{owner_class}
use Rattle.rev_maintainer.proofs.Bumps.{asks_of, asks_stands, lifted_is, rest-bump, rest-bumped}
use Rattle.rev_maintainer.specs.Bumping.{bumped}
use Rattle.rev_edits.proofs.Telling.{tells_more}
use Rattle.rev_maintainer.proofs.bumping.bump_in.Goals as goal

pub lift-requires-clause-stands : goal.lift-requires-clause-stands
lift-requires-clause-stands g c =
    let s = c.args.store.now in
    let b = c.in-Some.entry in
    let a = asks_of s b c.in-Some-item.item (sym c.asked-item.ensures ∙ c.in-Some-item.is) in
    let at = asks_stands s c.requires.sound b c.in-Some-item.item (drop 1 s.bump) a in
    (a.item, rw (c.owner-class.ensures, c.change.ensures.state) at)

pub returns-in-Some-item-clause-done : goal.returns-in-Some-item-clause-done
returns-in-Some-item-clause-done g c =
    let s = c.args.store.now in
    let b = c.in-Some.entry in
    let a = asks_of s b c.in-Some-item.item (sym c.asked-item.ensures ∙ c.in-Some-item.is) in
    lifted_is s c.lift.new.store b c.in-Some-item.item a (sym c.bump_at.ensures ∙ c.in-Some.is)
    (c.lift.ensures.state a.item (rw c.change.ensures.state a.there)
    ∙ ap (λ k. bumped k b.chunk a.item c.change.new.store) c.owner-class.ensures
    ∙ ap (λ (t : State). bumped (owner_of t b.chunk.page) b.chunk a.item t) c.change.ensures.state)

pub returns-in-Some-item-clause-sound : goal.returns-in-Some-item-clause-sound
returns-in-Some-item-clause-sound g c =
    let s = c.args.store.now in
    let b = c.in-Some.entry in
    let a = asks_of s b c.in-Some-item.item (sym c.asked-item.ensures ∙ c.in-Some-item.is) in
    let at = asks_stands s c.requires.sound b c.in-Some-item.item (drop 1 s.bump) a in
    let class = owner_class None s c.requires.sound b.chunk a.item a.there in
    let is = c.lift.ensures.state a.item (rw c.change.ensures.state a.there) ∙ ap (λ k. bumped k b.chunk a.item c.change.new.store) c.owner-class.ensures in
    sound_of None c.lift.new.store c.lift.ensures.well
    (subst (Rest None) (sym is)
    (rest-bumped None c.change.new.store c.change.ensures.well (owner_of c.change.new.store b.chunk.page) (rw c.change.ensures.state class) b.chunk a.item
    (rw c.change.ensures.state at) (rw c.change.ensures.state (rest-bump None s (drop 1 s.bump) (rest_of None s c.requires.sound)))))

pub returns-in-Some-item-clause-leads : goal.returns-in-Some-item-clause-leads
returns-in-Some-item-clause-leads g c = λ first l. c.lift.ensures.leads first (c.change.ensures.leads first l)

pub returns-in-Some-item-clause-told : goal.returns-in-Some-item-clause-told
returns-in-Some-item-clause-told g c = tells_more _ _ _ _ _ _ _ c.change.ensures.told c.lift.ensures.told

pub returns-in-Some-item-clause-room : goal.returns-in-Some-item-clause-room
returns-in-Some-item-clause-room g c = c.lift.ensures.room ∙ c.change.ensures.room

pub returns-in-None-clause-sound : goal.returns-in-None-clause-sound
returns-in-None-clause-sound g c =
    let s = c.args.store.now in
    sound_of None c.change.new.store c.change.ensures.well (subst (Rest None) (sym c.change.ensures.state) (rest-bump None s (drop 1 s.bump) (rest_of None s c.requires.sound)))

pub lift-requires-clause-item : goal.lift-requires-clause-item
lift-requires-clause-item g c =
    let s = c.args.store.now in
    let b = c.in-Some.entry in
    let a = asks_of s b c.in-Some-item.item (sym c.asked-item.ensures ∙ c.in-Some-item.is) in
    subst (λ (t : State). option_map header_of (item_at t b.chunk) ≡ Some c.in-Some-item.item) (sym c.change.ensures.state) (ap (option_map header_of) a.there ∙ ap Some a.same)

pub lift-requires-clause-class : goal.lift-requires-clause-class
lift-requires-clause-class g c =
    let s = c.args.store.now in
    let b = c.in-Some.entry in
    let a = asks_of s b c.in-Some-item.item (sym c.asked-item.ensures ∙ c.in-Some-item.is) in
    rw (c.owner-class.ensures, c.change.ensures.state) (owner_class None s c.requires.sound b.chunk a.item a.there)
