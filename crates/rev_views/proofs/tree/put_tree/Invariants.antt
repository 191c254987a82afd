use Rattle.std.proofs.Common.{◌≡◌, ◌++◌, codes, take}
use Rattle.rev_texts.specs.Texts.{output}
use Rattle.rev_views.specs.Trees.{rows_text}
use Rattle.rev_views.proofs.tree.put_tree.Given as goal

abbrev pub invariant-loop-number : goal.invariant-loop-number
invariant-loop-number g l = l.out.items ≡ l.fn.out.items ++ (output (codes "0 - root -") ++ rows_text l.session 0 (take l.number l.session.rows))
