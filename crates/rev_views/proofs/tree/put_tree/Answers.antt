use Rattle.std.proofs.Common.{◌+◌, ◌++◌, codes, take, sym, ◌∙◌, ap, arith, append_assoc}
use Rattle.rev_tree.specs.Rows.{row_of}
use Rattle.rev_texts.specs.Texts.{output}
use Rattle.rev_views.specs.Trees.{row_text, rows_text}
use Rattle.rev_views.proofs.Trees.{rows_text-next}
use Rattle.rev_views.proofs.tree.put_tree.Goals as goal

pub loop-number-preserved : goal.loop-number-preserved
loop-number-preserved g c =
    let m = c.args.session.now in
    let n = c.loop-number.number in
    let line = row_text m (n + 1) (row_of m.rows (n + 1)) in
    let before = output (codes "0 - root -") ++ rows_text m 0 (take n m.rows) in
    c.in_ok-put_row.ensures
    ∙ ap (λ t. t ++ line) c.loop-number.invariant
    ∙ append_assoc c.args.out.now.items before line
    ∙ ap (λ t. c.args.out.now.items ++ t) (append_assoc (output (codes "0 - root -")) (rows_text m 0 (take n m.rows)) line
    ∙ ap (λ t. output (codes "0 - root -") ++ t) (sym (rows_text-next m m.rows n (omega (arith, c.loop-number-test.true, c.issued-number-end.ensures)))))
