use Rattle.std.proofs.Common.{◌≡◌}
use Rattle.rev_model.specs.Move.{names}
use Rattle.rev_inverse.proofs.Marking.{IsChangedBelow, with_mark}
use Rattle.rev_inverse.proofs.store.Store.mark_all.Given as goal

abbrev pub invariant-loop-place : goal.invariant-loop-place
invariant-loop-place g l = (l.self ≡ record l.fn.self { queues = l.self.queues }) × IsChangedBelow with_mark (names l.fn.self l.set) l.place l.fn.self.queues l.self.queues
