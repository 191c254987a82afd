use Rattle.rev_tree.proofs.Positions.{stands_at}
use Rattle.rev_tree.proofs.Growth.{kept_sound}
use Rattle.rev_undotree.proofs.session.Session.store.Goals as goal

pub returns-clause-state : goal.returns-clause-state
returns-clause-state g c = rw (← c.self.view_is) (stands_at _ c.self.inside.position.store c.self.inside.position.base c.self.inside.position.way.items c.self.inside.position.here c.self.inside.issued c.self.invariant.kept)

pub returns-clause-sound : goal.returns-clause-sound
returns-clause-sound g c = kept_sound _ _ _ _ _ _ c.self.invariant.kept
