use Rattle.std.specs.Prelude.{◌++◌, ◌≡◌, ◌-◌, ◌+◌, ◌≤◌, length}
use Rattle.std.proofs.Common.{sym, ◌∙◌, ap, subst, rules, arith}
use Rattle.rev_model.specs.State.{State, Fixed, free_of, IsClass}
use Rattle.rev_model.specs.Pull.{squeezed, page_of}
use Rattle.rev_inverse.specs.Record.{PlainRecord}
use Rattle.rev_edits.specs.Taking.{paired}
use Rattle.rev_inverse.specs.Telling.{Tells}
use Rattle.rev_edits.proofs.Telling.{tells_more, tells_then}
use Rattle.rev_model.specs.Causes.{squeeze_removals, room_removals_by}
use Rattle.rev_maintainer.proofs.Causes.{later_removals, given_removals}
use Rattle.rev_maintainer.proofs.Rooming.{same_pages_squeezed, same_page_of, next_need, later_room, given_room, need_some, need_least}
use Rattle.rev_maintainer.specs.Rooming.{room_need}
use Rattle.rev_maintainer.proofs.room.+room_by.Goals as goal

pub room_by-requires : goal.room_by-requires
room_by-requires g t c κs within =
    let s = c.args.store.now in
    let k = c.args.class in
    let none = c.give.ensures.none c.in-None.is in
    let next = c.squeeze.ensures.state ∙ ap (λ (u : State). squeezed u k) none.0 in
    let same_pages = same_pages_squeezed s k in
    let fixed = ap (λ (u : State). u.fixed) next ∙ same_pages.fixed in
    let page = ap (λ (u : State). page_of u k) next ∙ same_page_of s (squeezed s k) k same_pages ∙ none.3 in
    let room : c.squeeze.new.undo.room ≡ c.args.undo.now.room = c.squeeze.ensures.room ∙ ap (λ (r : PlainRecord). r.room) none.1 in
    let need = next_need s c.squeeze.new.store k c.args.rounds (length c.args.undo.now.moves) (length c.squeeze.new.undo.moves) c.squeeze.new.undo.room none.2 none.3 page c.if-rounds-eq0.false
    (rw room c.requires.room)
    (subst (λ (r : PlainRecord). length c.squeeze.new.undo.moves ≤ length r.moves + 5) none.1 c.squeeze.ensures.made)
    (subst (λ (r : PlainRecord). length c.squeeze.new.undo.moves ≤ length r.moves + 4 + length (free_of c.squeeze.new.store k)) none.1 c.squeeze.ensures.few) in
    (search rules, (search rules, (c.squeeze.ensures.sound, (subst (λ (f : Fixed). IsClass f k) (sym fixed) c.requires.class, (λ e. record { page = sym page; parts = tt }, need)))))

pub returns-in-None-clause-done : goal.returns-in-None-clause-done
returns-in-None-clause-done g t c =
    let none = c.give.ensures.none c.in-None.is in
    later_room c.args.store.now c.squeeze.new.store c.args.class c.args.rounds (c.room_by.new.store, c.room_by.result) c.if-rounds-eq0.false
    (sym (ap (paired c.give.new.store) c.in-None.is) ∙ c.give.ensures.done) (c.squeeze.ensures.state ∙ ap (λ (u : State). squeezed u c.args.class) none.0) c.room_by.ensures.done

pub returns-in-None-clause-leads : goal.returns-in-None-clause-leads
returns-in-None-clause-leads g t c = λ first l. c.room_by.ensures.leads first (c.squeeze.ensures.leads first (c.give.ensures.leads first l))

pub returns-in-None-clause-told : goal.returns-in-None-clause-told
returns-in-None-clause-told g t c =
    let none = c.give.ensures.none c.in-None.is in
    let k = c.args.class in
    let next = c.squeeze.ensures.state ∙ ap (λ (u : State). squeezed u k) none.0 in
    let same = ap (λ (u : State). squeeze_removals u k ++ room_removals_by (c.args.rounds - 1) c.squeeze.new.store k) none.0
    ∙ later_removals c.args.store.now c.squeeze.new.store k c.args.rounds c.if-rounds-eq0.false (sym (ap (paired c.give.new.store) c.in-None.is) ∙ c.give.ensures.done) next in
    subst (Tells c.args.undo.now c.args.store.now c.room_by.new.undo c.room_by.new.store) same
    (tells_more _ _ _ _ _ _ _ c.give.ensures.told (tells_then _ _ _ _ _ _ _ _ c.squeeze.ensures.told c.room_by.ensures.told))

pub raise-requires-clause-room : goal.raise-requires-clause-room
raise-requires-clause-room g t c =
    let some : 1 ≤ room_need c.args.rounds c.args.store.now c.args.class = need_some c.args.rounds (free_of c.args.store.now c.args.class) (page_of c.args.store.now c.args.class) in
    omega (arith, some, c.requires.room)

pub returns-then-rounds-eq0-clause-made : goal.returns-then-rounds-eq0-clause-made
returns-then-rounds-eq0-clause-made g t c =
    let some : 1 ≤ room_need c.args.rounds c.args.store.now c.args.class = need_some c.args.rounds (free_of c.args.store.now c.args.class) (page_of c.args.store.now c.args.class) in
    omega (arith, some, c.raise.ensures.made)

pub give-requires-clause-room : goal.give-requires-clause-room
give-requires-clause-room g t c =
    let least : room_need 0 c.args.store.now c.args.class ≤ room_need c.args.rounds c.args.store.now c.args.class = need_least c.args.rounds (free_of c.args.store.now c.args.class) (page_of c.args.store.now c.args.class) in
    omega (arith, least, c.requires.room)

pub returns-in-Some-clause-done : goal.returns-in-Some-clause-done
returns-in-Some-clause-done g t c = given_room c.args.store.now c.give.new.store c.args.class c.args.rounds c.in-Some.chunk c.if-rounds-eq0.false (sym (ap (paired c.give.new.store) c.in-Some.is) ∙ c.give.ensures.done)

pub returns-in-Some-clause-made : goal.returns-in-Some-clause-made
returns-in-Some-clause-made g t c =
    let least : room_need 0 c.args.store.now c.args.class ≤ room_need c.args.rounds c.args.store.now c.args.class = need_least c.args.rounds (free_of c.args.store.now c.args.class) (page_of c.args.store.now c.args.class) in
    omega (arith, least, c.give.ensures.made)

pub returns-in-Some-clause-told : goal.returns-in-Some-clause-told
returns-in-Some-clause-told g t c =
    subst (Tells c.args.undo.now c.args.store.now c.give.new.undo c.give.new.store) (given_removals c.args.store.now c.give.new.store c.args.class c.args.rounds c.in-Some.chunk c.if-rounds-eq0.false (sym (ap (paired c.give.new.store) c.in-Some.is) ∙ c.give.ensures.done)) c.give.ensures.told
