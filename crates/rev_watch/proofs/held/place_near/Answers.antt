use Rattle.std.proofs.Common.{◌<◌, ◌-◌, length, subst, arith}
use Rattle.std.proofs.lemmas.List.{get_or_read}
use Rattle.rev_watch.proofs.held.place_near.Goals as goal

pub returns-then-before-number : goal.returns-then-before-number
returns-then-before-number g c =
    let run = c.args.run.now.items in
    let place = c.lines.place in
    let bound : place - 1 < length run = omega (arith, c.lines-test.true, c.lines.invariant.0) in
    record {
      within = c.lines.invariant.0;
      lower = λ d p. subst (λ line. line.0 < c.args.number) (get_or_read run (place - 1) c.index.result.now bound c.index.ensures d) c.if-before-number.true;
      higher = c.lines.invariant.1;
    }
