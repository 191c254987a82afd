use Rattle.std.proofs.Common.{◌≡◌, sym, ◌∙◌, ◌-◌, ap, subst, length, get_or, take, arith}
use Rattle.rev_pages.specs.State.{IsClear, PagesState, with_owner, with_slots}
use Rattle.rev_pages.proofs.Exchange.{slots_of, few_slots, lifted_linked, lifted_value}
use Rattle.rev_pages.proofs.pages.Pages.detach_last.Goals as goal

pub lift-links-requires : goal.lift-links-requires
lift-links-requires g c =
    let s = c.self.inside in
    let clear = subst (λ q. IsClear q c.args.page) (sym c.pop_owner.ensures) c.requires.clear in
    let a = slots_of s.owners.items s.made s.table.ends s.table.links c.self.invariant.linked c.pop_owner.new.self c.self.view_is c.args.page clear in
    let n = ap (λ (q : PagesState). get_or q.slots c.args.page 0) c.pop_owner.ensures in
    let b = c.requires.there in
    omega arith

pub returns-clause-count : goal.returns-clause-count
returns-clause-count g c =
    let s = c.self.inside in
    let clear = subst (λ q. IsClear q c.args.page) (sym c.pop_owner.ensures) c.requires.clear in
    ap length c.lift-links.ensures.before ∙ (sym (slots_of s.owners.items s.made s.table.ends s.table.links c.self.invariant.linked c.pop_owner.new.self c.self.view_is c.args.page clear) ∙ ap (λ (q : PagesState). get_or q.slots c.args.page 0) c.pop_owner.ensures)

pub invariant_of-result : goal.invariant_of-result
invariant_of-result g c =
    let s = c.self.inside in
    let clear = subst (λ q. IsClear q c.args.page) (sym c.pop_owner.ensures) c.requires.clear in
    let f = few_slots s.owners.items s.made s.table.ends s.table.links c.self.invariant.linked c.pop_owner.new.self c.self.view_is c.args.page clear in
    let e = ap length c.lift-links.ensures.before in
    omega arith

pub invariant_of-self : goal.invariant_of-self
invariant_of-self g c =
    let s = c.self.inside in
    let clear = subst (λ q. IsClear q c.args.page) (sym c.pop_owner.ensures) c.requires.clear in
    record {
      linked = lifted_linked s.owners.items s.made s.table.ends s.table.links c.self.invariant.linked c.pop_owner.new.self c.self.view_is c.args.page clear _ c.lift-links.ensures.after;
      counted = c.self.invariant.counted;
    }

pub returns-clause-value : goal.returns-clause-value
returns-clause-value g c =
    let s = c.self.inside in
    let clear = subst (λ q. IsClear q c.args.page) (sym c.pop_owner.ensures) c.requires.clear in
    let n : length c.args.self.now.owner - 1 ≡ c.args.page = let l = c.requires.last in omega arith in
    lifted_value s.owners.items s.made s.table.ends s.table.links c.self.invariant.linked c.pop_owner.new.self c.self.view_is c.args.page clear _ c.lift-links.ensures.after
    ∙ (ap (λ q. with_slots q c.args.page 0) c.pop_owner.ensures
    ∙ ap (λ k. with_slots (with_owner c.args.self.now (take k c.args.self.now.owner)) c.args.page 0) n)
