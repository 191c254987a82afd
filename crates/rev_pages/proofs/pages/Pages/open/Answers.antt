use Rattle.std.proofs.Common.{◌+◌, length, replicate, sym, ◌∙◌, ap, arith}
use Rattle.rev_pages.proofs.Counts.{counted_none}
use Rattle.rev_pages.proofs.Opening.{copied_linked, copied_value}
use Rattle.rev_pages.proofs.pages.Pages.open.Goals as goal

pub invariant_of-result : goal.invariant_of-result
invariant_of-result g c =
    let l = c.requires.pages in
    let w = c.last-lists.ensures.within.1 in
    record {
      linked = copied_linked c.in_ok-owners.owners.items _ _ c.over.ensures _ (c.args.config.now.pages + 62) (c.last-lists.result + 1) (let a = c.in_ok-owners.ensures.len in let b = c.in_ok-owners.owners.ok.0 in omega (arith, a, b)) (omega (arith, l)) c.in_ok-ends.ensures.count (omega (arith, w)) c.in_ok-ends.ensures.empty c.in_ok-links.ensures;
      counted = counted_none c.in_ok-owned.owned.items _ (c.in_ok-owned.ensures.items_if_clones_equal (λ y e. e) ∙ ap (λ k. replicate k 0) (sym (ap length c.over.ensures ∙ c.in_ok-ends.ensures.count)));
    }

pub returns : goal.returns
returns g c =
    let l = c.requires.pages in
    let w = c.last-lists.ensures.within.1 in
    copied_value c.in_ok-owners.owners.items _ _ c.over.ensures _ (c.args.config.now.pages + 62) (length c.args.table.now.sizes + 1) (let a = c.in_ok-owners.ensures.len in let b = c.in_ok-owners.owners.ok.0 in omega (arith, a, b)) (omega (arith, l))
    (c.in_ok-ends.ensures.count ∙ ap (λ i. i + 1) c.last-lists.ensures.last) (let e = c.last-lists.ensures.last in omega (arith, w, e)) c.in_ok-ends.ensures.empty c.in_ok-links.ensures
