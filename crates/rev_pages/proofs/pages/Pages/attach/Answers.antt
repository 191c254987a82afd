use Rattle.std.proofs.Common.{refl, arith, sym, ◌∙◌, subst, ap, get_or, length}
use Rattle.std.proofs.lemmas.List.{get_or-set_same, length-set}
use Rattle.rev_pages.specs.State.{IsClear, PagesState, with_slots}
use Rattle.rev_pages.proofs.Exchange.{is_clear, slot_there, laid_kept, laid_value}
use Rattle.rev_pages.proofs.pages.Pages.attach.Goals as goal

pub invariant_of-self : goal.invariant_of-self
invariant_of-self g c =
    let s = c.self.inside in
    let z = ap (λ (q : PagesState). get_or q.slots c.args.page 0) c.set_owner.ensures ∙ c.requires.empty in
    laid_kept s.owners.items s.made s.table.ends s.table.links c.self.invariant.linked c.set_owner.new.self c.self.view_is c.args.page z c.slots.inside.links.items _ _ c.slots.invariant refl c.lay.ensures.value s.owned.items c.self.invariant.counted

pub returns-clause-value : goal.returns-clause-value
returns-clause-value g c =
    let s = c.self.inside in
    let z = ap (λ (q : PagesState). get_or q.slots c.args.page 0) c.set_owner.ensures ∙ c.requires.empty in
    laid_value s.owners.items s.made s.table.ends s.table.links c.self.invariant.linked c.set_owner.new.self c.self.view_is c.args.page z c.slots.inside.links.items _ _ c.slots.invariant refl c.lay.ensures.value c.args.slots c.slots.view_is
    ∙ ap (λ q. with_slots q c.args.page c.args.slots) c.set_owner.ensures

pub returns-clause-clear : goal.returns-clause-clear
returns-clause-clear g c =
    let s = c.self.inside in
    let z = ap (λ (q : PagesState). get_or q.slots c.args.page 0) c.set_owner.ensures ∙ c.requires.empty in
    let e = laid_value s.owners.items s.made s.table.ends s.table.links c.self.invariant.linked c.set_owner.new.self c.self.view_is c.args.page z c.slots.inside.links.items _ _ c.slots.invariant refl c.lay.ensures.value c.args.slots c.slots.view_is in
    subst (λ w. IsClear w c.args.page) (sym e) (is_clear s.owners.items s.made s.table.ends s.table.links c.self.invariant.linked c.set_owner.new.self c.self.view_is c.args.page z)

pub returns-clause-size : goal.returns-clause-size
returns-clause-size g c =
    let s = c.self.inside in
    let z = ap (λ (q : PagesState). get_or q.slots c.args.page 0) c.set_owner.ensures ∙ c.requires.empty in
    let n = ap (λ (q : PagesState). length q.owner) c.set_owner.ensures in
    let k = length-set c.args.self.now.owner c.args.page c.args.class in
    let l = slot_there s.owners.items s.made s.table.ends s.table.links c.self.invariant.linked c.set_owner.new.self c.self.view_is c.args.page (omega arith) in
    let e = laid_value s.owners.items s.made s.table.ends s.table.links c.self.invariant.linked c.set_owner.new.self c.self.view_is c.args.page z c.slots.inside.links.items _ _ c.slots.invariant refl c.lay.ensures.value c.args.slots c.slots.view_is in
    ap (λ (w : PagesState). get_or w.slots c.args.page 0) e ∙ get_or-set_same c.set_owner.new.self.slots c.args.page c.args.slots 0 l
