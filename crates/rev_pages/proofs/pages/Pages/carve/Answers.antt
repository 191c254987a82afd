use Rattle.std.proofs.Common.{sym, arith}
use Rattle.rev_pages.proofs.Carving.{class_with, carve_slot, carve_none, carve_step, with_free_same}
use Rattle.rev_pages.proofs.pages.Pages.carve.Goals as goal

pub put_after-requires-clause-class : goal.put_after-requires-clause-class
put_after-requires-clause-class g c = class_with _ _ _ _ c.loop-slot.invariant c.requires.class

pub put_after-requires-clause-slot : goal.put_after-requires-clause-slot
put_after-requires-clause-slot g c = carve_slot c.args.self.now c.loop-slot.self c.args.class _ c.args.page _ c.args.n c.loop-slot.invariant c.requires.slots (omega arith)

pub put_after-requires-clause-nowhere : goal.put_after-requires-clause-nowhere
put_after-requires-clause-nowhere g c = carve_none _ _ c.args.class c.args.page _ c.requires.class c.requires.clear c.loop-slot.invariant

pub loop-slot-init : goal.loop-slot-init
loop-slot-init g c = sym (with_free_same _ _)

pub loop-slot-preserved : goal.loop-slot-preserved
loop-slot-preserved g c = carve_step c.args.self.now c.loop-slot.self _ c.args.class c.args.page _ c.requires.class c.loop-slot.invariant c.put_after.ensures.free c.put_after.ensures.owner c.put_after.ensures.slots
