use Rattle.std.proofs.Common.{sym, ◌∙◌, ap, subst, set, length, [], refl, arith}
use Rattle.rev_index.specs.Index.{index_of, IsChained}
use Rattle.rev_index.proofs.Fills.{lift_clear, page_items, page_same, page_few, page_free, page_count, exchange_chained, exchange_value}
use Rattle.rev_index.proofs.index.Index.lift.Goals as goal

pub lift-links-requires : goal.lift-links-requires
lift-links-requires g c =
    let s = c.self.inside in
    let a = page_same s.chains.ends.items s.chains.links s.items c.self.invariant c.args.self.now c.self.view_is c.args.page in
    let b = page_items s.chains.ends.items s.chains.links s.items c.self.invariant c.args.self.now c.self.view_is c.args.page c.requires.there in
    omega arith

pub lift-items-requires : goal.lift-items-requires
lift-items-requires g c =
    let s = c.self.inside in
    page_items s.chains.ends.items s.chains.links s.items c.self.invariant c.args.self.now c.self.view_is c.args.page c.requires.there

pub invariant_of-self : goal.invariant_of-self
invariant_of-self g c =
    let s = c.self.inside in
    subst (λ l. IsChained s.chains.ends.items l c.lift-items.new.self) (sym c.lift-links.ensures.after) (subst (IsChained s.chains.ends.items (set s.chains.links c.args.page [])) (sym c.lift-items.ensures.after)
    (exchange_chained s.chains.ends.items s.chains.links s.items c.self.invariant c.args.self.now c.self.view_is c.args.page [] [] (record { same = refl; none = λ t. refl; few = omega arith }) (lift_clear s.chains.ends.items s.chains.links s.items c.self.invariant c.args.self.now c.self.view_is c.args.page c.requires.empty)))

pub invariant_of-result : goal.invariant_of-result
invariant_of-result g c =
    let s = c.self.inside in
    rw (c.lift-items.ensures.before, c.lift-links.ensures.before)
    (record { same = page_same s.chains.ends.items s.chains.links s.items c.self.invariant c.args.self.now c.self.view_is c.args.page; none = page_free s.chains.ends.items s.chains.links s.items c.self.invariant c.args.self.now c.self.view_is c.args.page (lift_clear s.chains.ends.items s.chains.links s.items c.self.invariant c.args.self.now c.self.view_is c.args.page c.requires.empty); few = page_few s.chains.ends.items s.chains.links s.items c.self.invariant c.args.self.now c.self.view_is c.args.page })

pub returns-clause-count : goal.returns-clause-count
returns-clause-count g c =
    let s = c.self.inside in
    ap length c.lift-items.ensures.before ∙ page_count s.chains.ends.items s.chains.links s.items c.self.invariant c.args.self.now c.self.view_is c.args.page

pub returns-clause-after : goal.returns-clause-after
returns-clause-after g c =
    let s = c.self.inside in
    ap (λ l. index_of s.chains.ends.items l c.lift-items.new.self) c.lift-links.ensures.after ∙ (ap (index_of s.chains.ends.items (set s.chains.links c.args.page [])) c.lift-items.ensures.after
    ∙ exchange_value s.chains.ends.items s.chains.links s.items c.self.invariant c.args.self.now c.self.view_is c.args.page [] [] (record { same = refl; none = λ t. refl; few = omega arith }) (lift_clear s.chains.ends.items s.chains.links s.items c.self.invariant c.args.self.now c.self.view_is c.args.page c.requires.empty) 0 refl)
