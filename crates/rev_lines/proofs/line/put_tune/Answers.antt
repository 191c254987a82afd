use Rattle.rev_lines.proofs.Putting.{puts, tune_has}
use Rattle.rev_lines.proofs.line.put_tune.Goals as goal

pub returns : goal.returns
returns g c = puts _ _ _ (tune_has c.args.tune c.hot_share-within.ensures.within) c.in_ok-put_numbers.ensures
