use Rattle.std.specs.Prelude.{◌≤◌}
use Rattle.std.proofs.Common.{arith, ap, sym, ◌∙◌}
use Rattle.rev_edits.specs.Taking.{paired}
use Rattle.rev_edits.proofs.Telling.{tells_more}
use Rattle.rev_maintainer.proofs.Arms.{given_front, given_page}
use Rattle.rev_model.specs.State.{free_of}
use Rattle.rev_model.specs.Pull.{page_of}
use Rattle.rev_maintainer.specs.Rooming.{room_need}
use Rattle.rev_maintainer.proofs.Rooming.{need_some}
use Rattle.rev_maintainer.proofs.room.give.Goals as goal

pub returns-in-Some-page-clause-leads : goal.returns-in-Some-page-clause-leads
returns-in-Some-page-clause-leads g c = λ first l. c.take_front-in-Some-page.ensures.leads first (c.lay_page.ensures.leads first (c.take_front.ensures.leads first l))

pub take_front-requires-clause-room : goal.take_front-requires-clause-room
take_front-requires-clause-room g c =
    let some : 1 ≤ room_need 0 c.args.store.now c.args.class = need_some 0 (free_of c.args.store.now c.args.class) (page_of c.args.store.now c.args.class) in
    omega (arith, some, c.requires.room)

pub returns-in-Some-clause-made : goal.returns-in-Some-clause-made
returns-in-Some-clause-made g c =
    let some : 1 ≤ room_need 0 c.args.store.now c.args.class = need_some 0 (free_of c.args.store.now c.args.class) (page_of c.args.store.now c.args.class) in
    omega (arith, some, c.take_front.ensures.made)

pub returns-in-Some-clause-done : goal.returns-in-Some-clause-done
returns-in-Some-clause-done g c =
    given_front c.args.store.now c.take_front.new.store c.args.class c.in-Some.chunk (sym (ap (paired c.take_front.new.store) c.in-Some.is) ∙ c.take_front.ensures.done)

pub returns-in-Some-page-clause-done : goal.returns-in-Some-page-clause-done
returns-in-Some-page-clause-done g c =
    let none = c.take_front.ensures.none c.in-None.is in
    given_page c.args.store.now c.take_front.new.store c.lay_page.new.store _ c.args.class _ none.0 none.2 c.lay_page.ensures.state c.take_front-in-Some-page.ensures.done

pub returns-in-Some-page-clause-told : goal.returns-in-Some-page-clause-told
returns-in-Some-page-clause-told g c = tells_more _ _ _ _ _ _ _ c.take_front.ensures.told (tells_more _ _ _ _ _ _ _ c.lay_page.ensures.told c.take_front-in-Some-page.ensures.told)

pub returns-in-Some-page-clause-room : goal.returns-in-Some-page-clause-room
returns-in-Some-page-clause-room g c = c.take_front-in-Some-page.ensures.room ∙ (c.lay_page.ensures.room ∙ c.take_front.ensures.room)
