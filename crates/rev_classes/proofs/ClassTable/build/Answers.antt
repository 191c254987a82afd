use Rattle.std.proofs.Common.{◌≡◌, ◌∙◌, true, false, sym, subst, refl, rules}
use Rattle.rev_classes.proofs.Laws.{are_sizes, has_factor}
use Rattle.rev_classes.specs.Limits.{is_growth_factor, is_page_size}
use Rattle.rev_classes.specs.Table.{AreClassSizes}
use Rattle.rev_classes.proofs.ClassTable.build.Goals as goal

pub invariant_of-result : goal.invariant_of-result
invariant_of-result c =
    let page = c.from-page_size.ensures in
    let p : is_page_size c.from-page_size.result ≡ true = subst (λ n. is_page_size n ≡ true) (sym page) (sym c.is_page_size.ensures ∙ c.if-not-is_page_size.false) in
    let f : is_growth_factor c.from-num.result c.from-den.result ≡ true = rw (c.from-num.ensures, c.from-den.ensures) (sym c.is_growth_factor.ensures ∙ c.if-not-is_growth_factor.false) in
    let law = are_sizes _ _ _ (has_factor _ _ _ p f) c.in-Some.ensures.few in
    subst (λ n. AreClassSizes n c.in-Some.sizes.items) page (subst (λ xs. AreClassSizes c.from-page_size.result xs) (sym c.in-Some.ensures.some) law)

pub returns-then-not-is_growth_factor-clause-err : goal.returns-then-not-is_growth_factor-clause-err
returns-then-not-is_growth_factor-clause-err c =
    let page : is_page_size c.args.config.now.page_size ≡ true = search rules in
    let factor : is_growth_factor c.args.config.now.num c.args.config.now.den ≡ false = search rules in
    rw (page, factor) refl
