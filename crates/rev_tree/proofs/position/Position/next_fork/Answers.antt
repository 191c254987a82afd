use Rattle.std.proofs.Common.{ap, ◌∙◌}
use Rattle.rev_tree.specs.Places.{with_place}
use Rattle.rev_tree.specs.Ways.{reach}
use Rattle.rev_tree.proofs.Leads.{asked_along, asked_off}
use Rattle.rev_tree.proofs.position.Position.next_fork.Goals as goal

pub returns-then-self-len-clause-fork : goal.returns-then-self-len-clause-fork
returns-then-self-len-clause-fork g c =
    let i = c.args.self.now in
    asked_along c.reach-branch.result.now (reach i.base i.way.items) i.here c.len.result (c.reach-branch.ensures ∙ ap (λ w. with_place 0 (reach i.base w)) c.as_slice.ensures.value) c.len.ensures.value c.if-self-len.true

pub returns-clause-fork : goal.returns-clause-fork
returns-clause-fork g c =
    let i = c.args.self.now in
    asked_off c.reach-branch.result.now (reach i.base i.way.items) i.here c.len.result c.fork_count.result (c.reach-branch.ensures ∙ ap (λ w. with_place 0 (reach i.base w)) c.as_slice.ensures.value) c.len.ensures.value c.if-self-len.false c.fork_count.ensures
