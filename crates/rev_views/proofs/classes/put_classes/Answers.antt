use Rattle.std.proofs.Common.{◌++◌, ◌+◌, sym, ◌∙◌, ap, append_assoc}
use Rattle.rev_views.specs.Classes.{class_line, classes_to}
use Rattle.rev_views.proofs.Counting.{classes_next}
use Rattle.rev_views.proofs.classes.put_classes.Goals as goal

pub loop-passed-preserved : goal.loop-passed-preserved
loop-passed-preserved g c =
    let s = c.args.store.now in
    let n = c.loop-passed.passed in
    c.in_ok-put_class.ensures
    ∙ ap (λ t. t ++ class_line s (n + 1)) c.loop-passed.invariant
    ∙ append_assoc c.args.out.now.items (classes_to s n) (class_line s (n + 1))
    ∙ ap (λ t. c.args.out.now.items ++ t) (sym (classes_next s n))
