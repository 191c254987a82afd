use Rattle.std.proofs.Common.{◌≡◌, ◌+◌, ◌<◌, ◌∙◌, ap, sym, subst, get_or, length}
use Rattle.rev_pages.specs.Lays.{CanLift, lifted}
use Rattle.rev_pages.specs.State.{PagesState}
use Rattle.rev_pages.proofs.Lifting.{lift_pool, lift_class, lift_clear, lift_fresh, withdrawn_clear, lift_front}
use Rattle.rev_pages.proofs.pages.Pages.lift_by.Goals as goal

pub uncarve-requires-clause-class : goal.uncarve-requires-clause-class
uncarve-requires-clause-class g c =
    lift_class c.args.self.now c.args.page _ _ _ c.from.ensures c.owner-class.ensures c.count-n.ensures c.requires.there (subst (λ f. CanLift f c.args.page c.args.self.now) c.in-Fresh.is c.requires.page).1

pub uncarve-requires-in-Pool-clause-class : goal.uncarve-requires-in-Pool-clause-class
uncarve-requires-in-Pool-clause-class g c =
    lift_class c.args.self.now c.args.page _ _ _ c.from.ensures c.owner-class.ensures c.count-n.ensures c.requires.there (subst (λ f. CanLift f c.args.page c.args.self.now) c.in-Pool.is c.requires.page).1

pub detach_last-requires-clause-clear : goal.detach_last-requires-clause-clear
detach_last-requires-clause-clear g c =
    let s = c.self.inside in
    lift_clear c.args.self.now c.args.page _ _ _ c.from.ensures c.owner-class.ensures c.count-n.ensures s.owners.items s.made s.table.ends s.table.links c.self.invariant.linked c.self.view_is _ c.requires.there
    (subst (λ f. CanLift f c.args.page c.args.self.now) c.in-Fresh.is c.requires.page).1 c.uncarve.ensures

pub detach-requires-clause-clear : goal.detach-requires-clause-clear
detach-requires-clause-clear g c =
    let s = c.self.inside in
    lift_clear c.args.self.now c.args.page _ _ _ c.from.ensures c.owner-class.ensures c.count-n.ensures s.owners.items s.made s.table.ends s.table.links c.self.invariant.linked c.self.view_is _ c.requires.there
    (subst (λ f. CanLift f c.args.page c.args.self.now) c.in-Pool.is c.requires.page).1 c.uncarve-in-Pool.ensures

pub detach-requires-in-Withdrawn-clause-clear : goal.detach-requires-in-Withdrawn-clause-clear
detach-requires-in-Withdrawn-clause-clear g c = withdrawn_clear c.args.self.now c.args.page c.args.form c.in-Withdrawn.is c.requires.page

pub returns-in-Fresh-clause-value : goal.returns-in-Fresh-clause-value
returns-in-Fresh-clause-value g c =
    lift_fresh c.args.self.now c.args.page _ _ _ c.from.ensures c.owner-class.ensures c.count-n.ensures _ _ c.args.form c.in-Fresh.is
    (subst (λ f. CanLift f c.args.page c.args.self.now) c.in-Fresh.is c.requires.page).0 c.uncarve.ensures c.detach_last.ensures.value

pub uncarve-requires-clause-front : goal.uncarve-requires-clause-front
uncarve-requires-clause-front g c =
    lift_front c.args.self.now c.args.page _ _ _ c.from.ensures c.owner-class.ensures c.count-n.ensures (subst (λ f. CanLift f c.args.page c.args.self.now) c.in-Fresh.is c.requires.page).1

pub uncarve-requires-in-Pool-clause-front : goal.uncarve-requires-in-Pool-clause-front
uncarve-requires-in-Pool-clause-front g c =
    lift_front c.args.self.now c.args.page _ _ _ c.from.ensures c.owner-class.ensures c.count-n.ensures (subst (λ f. CanLift f c.args.page c.args.self.now) c.in-Pool.is c.requires.page).1

pub detach_last-requires-clause-last : goal.detach_last-requires-clause-last
detach_last-requires-clause-last g c =
    subst (λ (s : PagesState). c.args.page + 1 ≡ length s.owner) (sym c.uncarve.ensures) (subst (λ f. CanLift f c.args.page c.args.self.now) c.in-Fresh.is c.requires.page).0

pub detach_last-requires-clause-there : goal.detach_last-requires-clause-there
detach_last-requires-clause-there g c = subst (λ (s : PagesState). 0 < get_or s.slots c.args.page 0) (sym c.uncarve.ensures) c.requires.there

pub detach-requires-clause-page : goal.detach-requires-clause-page
detach-requires-clause-page g c =
    subst (λ (s : PagesState). c.args.page < length s.owner) (sym c.uncarve-in-Pool.ensures) (subst (λ f. CanLift f c.args.page c.args.self.now) c.in-Pool.is c.requires.page).0

pub detach-requires-clause-there : goal.detach-requires-clause-there
detach-requires-clause-there g c = subst (λ (s : PagesState). 0 < get_or s.slots c.args.page 0) (sym c.uncarve-in-Pool.ensures) c.requires.there

pub detach-requires-in-Withdrawn-clause-page : goal.detach-requires-in-Withdrawn-clause-page
detach-requires-in-Withdrawn-clause-page g c = (subst (λ f. CanLift f c.args.page c.args.self.now) c.in-Withdrawn.is c.requires.page).0

pub detach-requires-in-Withdrawn-clause-there : goal.detach-requires-in-Withdrawn-clause-there
detach-requires-in-Withdrawn-clause-there g c = c.requires.there

pub returns-in-Fresh-clause-count : goal.returns-in-Fresh-clause-count
returns-in-Fresh-clause-count g c = c.detach_last.ensures.count ∙ ap (λ (s : PagesState). get_or s.slots c.args.page 0) c.uncarve.ensures

pub returns-in-Pool-clause-count : goal.returns-in-Pool-clause-count
returns-in-Pool-clause-count g c = c.detach.ensures.count ∙ ap (λ (s : PagesState). get_or s.slots c.args.page 0) c.uncarve-in-Pool.ensures

pub returns-in-Pool-clause-value : goal.returns-in-Pool-clause-value
returns-in-Pool-clause-value g c =
    lift_pool c.args.self.now c.args.page _ _ _ c.from.ensures c.owner-class.ensures c.count-n.ensures _ _ c.args.form c.in-Pool.is c.uncarve-in-Pool.ensures c.detach.ensures.value

pub returns-clause-count : goal.returns-clause-count
returns-clause-count g c = c.detach-in-Withdrawn.ensures.count

pub returns-clause-value : goal.returns-clause-value
returns-clause-value g c =
    let s = c.args.self.now in
    c.detach-in-Withdrawn.ensures.value ∙ ap (λ f. lifted c.args.page (get_or s.owner c.args.page 0) (get_or s.slots c.args.page 0) f s) (sym c.in-Withdrawn.is)
