use Rattle.std.proofs.Common.{sym, ◌∙◌, ap, subst, length, get_or, arith}
use Rattle.rev_pages.specs.State.{IsClear, PagesState, with_slots}
use Rattle.rev_pages.proofs.Exchange.{slots_of, few_slots, lifted_linked, lifted_value}
use Rattle.rev_pages.proofs.Giving.{pool_there}
use Rattle.rev_pages.proofs.pages.Pages.detach.Goals as goal

pub set_owner-requires-clause-class : goal.set_owner-requires-clause-class
set_owner-requires-clause-class g c =
    let s = c.self.inside in
    pool_there s.owners.items s.made s.owned.items s.table.ends s.table.links c.self.invariant c.args.self.now c.self.view_is c.args.page c.requires.page

pub lift-links-requires : goal.lift-links-requires
lift-links-requires g c =
    let s = c.self-2.inside in
    let clear = subst (λ q. IsClear q c.args.page) (sym c.set_owner.ensures) c.requires.clear in
    let a = slots_of s.owners.items s.made s.table.ends s.table.links c.self-2.invariant.linked c.set_owner.new.self c.self-2.view_is c.args.page clear in
    let n = ap (λ (q : PagesState). get_or q.slots c.args.page 0) c.set_owner.ensures in
    let b = c.requires.there in
    omega arith

pub returns-clause-count : goal.returns-clause-count
returns-clause-count g c =
    let s = c.self-2.inside in
    let clear = subst (λ q. IsClear q c.args.page) (sym c.set_owner.ensures) c.requires.clear in
    ap length c.lift-links.ensures.before ∙ (sym (slots_of s.owners.items s.made s.table.ends s.table.links c.self-2.invariant.linked c.set_owner.new.self c.self-2.view_is c.args.page clear) ∙ ap (λ (q : PagesState). get_or q.slots c.args.page 0) c.set_owner.ensures)

pub invariant_of-result : goal.invariant_of-result
invariant_of-result g c =
    let s = c.self-2.inside in
    let clear = subst (λ q. IsClear q c.args.page) (sym c.set_owner.ensures) c.requires.clear in
    let f = few_slots s.owners.items s.made s.table.ends s.table.links c.self-2.invariant.linked c.set_owner.new.self c.self-2.view_is c.args.page clear in
    let e = ap length c.lift-links.ensures.before in
    omega arith

pub invariant_of-self : goal.invariant_of-self
invariant_of-self g c =
    let s = c.self-2.inside in
    let clear = subst (λ q. IsClear q c.args.page) (sym c.set_owner.ensures) c.requires.clear in
    record {
      linked = lifted_linked s.owners.items s.made s.table.ends s.table.links c.self-2.invariant.linked c.set_owner.new.self c.self-2.view_is c.args.page clear _ c.lift-links.ensures.after;
      counted = c.self-2.invariant.counted;
    }

pub returns-clause-value : goal.returns-clause-value
returns-clause-value g c =
    let s = c.self-2.inside in
    let clear = subst (λ q. IsClear q c.args.page) (sym c.set_owner.ensures) c.requires.clear in
    lifted_value s.owners.items s.made s.table.ends s.table.links c.self-2.invariant.linked c.set_owner.new.self c.self-2.view_is c.args.page clear _ c.lift-links.ensures.after ∙ ap (λ q. with_slots q c.args.page 0) c.set_owner.ensures
