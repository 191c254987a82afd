use Rattle.std.proofs.Common.{ap, ◌∙◌}
use Rattle.rev_tree.proofs.Positions.{stands_way}
use Rattle.rev_undotree.proofs.session.Session.current.Goals as goal

pub number-requires-clause-way : goal.number-requires-clause-way
number-requires-clause-way g c = stands_way _ _ _ _ _ c.self.invariant.kept.stands

pub returns : goal.returns
returns g c = c.number.ensures ∙ ap (λ z. z.current) c.self.view_is
