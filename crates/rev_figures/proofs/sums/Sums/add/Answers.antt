use Rattle.std.proofs.Common.{◌++◌, subst}
use Rattle.rev_figures.specs.Paths.{path_leavings}
use Rattle.rev_figures.specs.Sums.{AreCounts}
use Rattle.rev_figures.proofs.sums.Sums.add.Goals as goal

pub returns-clause-counts : goal.returns-clause-counts
returns-clause-counts g c = λ ss ls w.
    let v = c.args.session.now in
    let part = c.in_ok-part.part in
    let now = c.count.new.self in
    subst (λ ps. AreCounts (ss ++ ps) (ls ++ path_leavings v.root v.rows v.current) now.steps.items now.lost.items) c.in_ok-part.ensures.steps
    (subst (λ ks. AreCounts (ss ++ part.steps.items) (ls ++ ks) now.steps.items now.lost.items) c.in_ok-part.ensures.leavings (c.count.ensures.counts ss ls w))
