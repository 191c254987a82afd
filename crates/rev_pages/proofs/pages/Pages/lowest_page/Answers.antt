use Rattle.std.proofs.Common.{◌∙◌, sym, arith, rules}
use Rattle.rev_pages.proofs.Owners.{no_page, page_met, page_passed, page_end}
use Rattle.rev_pages.proofs.pages.Pages.lowest_page.Goals as goal

pub overflow_cast-result : goal.overflow_cast-result
overflow_cast-result g c = let a = c.made-page-end.ensures.within in let b = c.loop-page-test.true in omega (arith, a, b)

pub returns-then-owner-class : goal.returns-then-owner-class
returns-then-owner-class g c =
    let o = c.args.self.now.owner in
    let l = c.made-page-end.ensures.made in let m = c.loop-page-test.true in
    sym (c.loop-page.invariant ∙ page_met c.args.class c.loop-page.page o (omega (arith, l, m)) (sym c.owner.ensures ∙ c.if-owner-class.true))

pub loop-page-preserved : goal.loop-page-preserved
loop-page-preserved g c =
    let o = c.args.self.now.owner in
    let l = c.made-page-end.ensures.made in let m = c.loop-page-test.true in
    c.loop-page.invariant ∙ page_passed c.args.class c.loop-page.page o (omega (arith, l, m)) (λ e. c.if-owner-class.false (c.owner.ensures ∙ e))

pub returns : goal.returns
returns g c =
    let l = c.made-page-end.ensures.made in let m = c.loop-page-test.false in
    sym (c.loop-page.invariant ∙ page_end c.args.class c.loop-page.page c.args.self.now.owner (omega (arith, l, m)))

pub returns-then-not-owns_page : goal.returns-then-not-owns_page
returns-then-not-owns_page g c = no_page c.args.class c.args.self.now.owner 0 (sym c.owns_page.ensures ∙ c.if-not-owns_page.true)

pub loop-page-init : goal.loop-page-init
loop-page-init g c = search rules steps 500000
