use Rattle.std.proofs.Common.{◌∙◌, ap, [], ◌∷◌, ◌++◌}
use Rattle.rev_index.proofs.Ends.{count_more, empty_more}
use Rattle.rev_index.proofs.making.empty_ends.Goals as goal

pub loop-number-preserved : goal.loop-number-preserved
loop-number-preserved g c =
    let pushed = c.in_ok-push.ensures.items ∙ ap (λ end. c.loop-number.ends.items ++ end ∷ []) c.empty_end.ensures in
    record {
      count = count_more _ _ _ pushed c.loop-number.invariant.count;
      empty = empty_more _ _ _ pushed c.loop-number.invariant.count c.loop-number.invariant.empty;
    }
