use Rattle.std.proofs.Common.{◌++◌, take, sym, ◌∙◌, ap, append_assoc, arith}
use Rattle.rev_texts.specs.Texts.{page_text, pages_text}
use Rattle.rev_views.proofs.Shows.{pages_text-next}
use Rattle.rev_views.proofs.show.put_pages.Goals as goal

pub loop-page-preserved : goal.loop-page-preserved
loop-page-preserved g c =
    let owner = c.args.store.now.owner in
    let n = c.loop-page.page in
    let line = page_text n c.owner.result in
    c.in_ok-put_page.ensures
    ∙ ap (λ t. t ++ line) c.loop-page.invariant
    ∙ append_assoc c.args.answer.now.items (pages_text 0 (take n owner)) line
    ∙ ap (λ t. c.args.answer.now.items ++ t) (sym (pages_text-next owner n c.owner.result (omega (arith, c.loop-page-test.true, c.made-page-end.ensures)) c.owner.ensures))
