use Rattle.std.proofs.Common.{arith, None}
use Rattle.rev_log.proofs.Sound.{sound-popped, popped-none}
use Rattle.rev_log.proofs.foresight.Foresight.pop.Goals as goal

pub returns-in_default-clause-popped : goal.returns-in_default-clause-popped
returns-in_default-clause-popped g c =
    popped-none c.self.inside.first c.self.inside.waiting.items c.pop_front.new.self.items c.self.inside.seconds c.args.self.now c.self.view_is c.in_default.ensures.items (omega (arith, c.in_default.ensures.cases, c.self.inside.waiting.ok.0))

pub invariant_of-self-2 : goal.invariant_of-self-2
invariant_of-self-2 g c =
    sound-popped c.self.inside.nexts.items c.self.invariant c.in-Some.ensures.items c.pop_front-2.ensures.rest (λ h. c.pop_front-2.ensures.value None (omega (arith, h, c.self.inside.nexts.ok.0)))
    c.unwrap_or-next.ensures c.forget.ensures c.forget_move.ensures
