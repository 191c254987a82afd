use Rattle.std.proofs.Common.{sym, ◌∙◌}
use Rattle.rev_tree.proofs.Machine.{kept_tree, kept_path}
use Rattle.rev_tree.proofs.Trips.{lineage_depth, depth_within}
use Rattle.rev_undotree.proofs.session.Session.depth.Goals as goal

pub depth-requires : goal.depth-requires
depth-requires g c = depth_within _ _ _ _ _ _ c.self.invariant.kept

pub returns : goal.returns
returns g c =
    rw (← c.self.view_is) (c.depth.ensures ∙ sym (lineage_depth _ c.self.inside.position.base c.self.inside.position.way.items c.self.inside.position.here (kept_tree _ _ _ _ _ _ c.self.invariant.kept) (kept_path _ _ _ _ _ _ c.self.invariant.kept) c.self.invariant.kept.proper))
