use Rattle.std.proofs.Common.{refl, sym, ◌∙◌, subst, ap, get_or}
use Rattle.rev_pages.specs.State.{IsClear, PagesState, with_slots}
use Rattle.rev_pages.proofs.Exchange.{is_clear, laid_kept, laid_value}
use Rattle.rev_pages.proofs.pages.Pages.attach_new.Goals as goal

pub invariant_of-self : goal.invariant_of-self
invariant_of-self g c =
    let s = c.self.inside in
    let z = ap (λ (q : PagesState). get_or q.slots c.args.page 0) c.push_owner.ensures ∙ c.requires.empty in
    laid_kept s.owners.items s.made s.table.ends s.table.links c.self.invariant.linked c.push_owner.new.self c.self.view_is c.args.page z c.slots.inside.links.items _ _ c.slots.invariant refl c.lay.ensures.value s.owned.items c.self.invariant.counted

pub returns-clause-value : goal.returns-clause-value
returns-clause-value g c =
    let s = c.self.inside in
    let z = ap (λ (q : PagesState). get_or q.slots c.args.page 0) c.push_owner.ensures ∙ c.requires.empty in
    laid_value s.owners.items s.made s.table.ends s.table.links c.self.invariant.linked c.push_owner.new.self c.self.view_is c.args.page z c.slots.inside.links.items _ _ c.slots.invariant refl c.lay.ensures.value c.args.slots c.slots.view_is
    ∙ ap (λ q. with_slots q c.args.page c.args.slots) c.push_owner.ensures

pub returns-clause-clear : goal.returns-clause-clear
returns-clause-clear g c =
    let s = c.self.inside in
    let z = ap (λ (q : PagesState). get_or q.slots c.args.page 0) c.push_owner.ensures ∙ c.requires.empty in
    let e = laid_value s.owners.items s.made s.table.ends s.table.links c.self.invariant.linked c.push_owner.new.self c.self.view_is c.args.page z c.slots.inside.links.items _ _ c.slots.invariant refl c.lay.ensures.value c.args.slots c.slots.view_is in
    subst (λ w. IsClear w c.args.page) (sym e) (is_clear s.owners.items s.made s.table.ends s.table.links c.self.invariant.linked c.push_owner.new.self c.self.view_is c.args.page z)
