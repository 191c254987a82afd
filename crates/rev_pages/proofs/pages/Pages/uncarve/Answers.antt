use Rattle.std.proofs.Common.{drop, refl, arith}
use Rattle.rev_pages.specs.State.{free_of}
use Rattle.rev_pages.proofs.Carving.{class_with, uncarve_there, uncarve_next, uncarve_start}
use Rattle.rev_pages.proofs.pages.Pages.uncarve.Goals as goal

pub take-requires-clause-class : goal.take-requires-clause-class
take-requires-clause-class g c = class_with c.args.self.now c.loop-k.self c.args.class _ c.loop-k.invariant c.requires.class

pub take-requires-clause-there : goal.take-requires-clause-there
take-requires-clause-there g c = uncarve_there c.args.self.now c.loop-k.self c.args.class c.args.page c.args.n _ _ (drop c.args.n (free_of c.args.self.now c.args.class)) c.requires.class (omega arith) refl c.loop-k.invariant

pub loop-k-init : goal.loop-k-init
loop-k-init g c = uncarve_start c.args.self.now c.args.class c.args.page c.args.n (drop c.args.n (free_of c.args.self.now c.args.class)) c.requires.front

pub loop-k-preserved : goal.loop-k-preserved
loop-k-preserved g c = uncarve_next c.args.self.now c.loop-k.self _ c.args.class c.args.page c.args.n _ _ (drop c.args.n (free_of c.args.self.now c.args.class)) c.requires.class (omega arith) refl c.loop-k.invariant c.take.ensures.free c.take.ensures.owner c.take.ensures.slots
