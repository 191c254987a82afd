use Rattle.std.proofs.Common.{sym, ◌∙◌}
use Rattle.rev_watch.proofs.HeldLemmas.{run-gives, strays-give, run-popped, none-left}
use Rattle.rev_watch.proofs.held.HeldLines.pop_first.Goals as goal

pub invariant_of-self-else-is_first : goal.invariant_of-self-else-is_first
invariant_of-self-else-is_first g c =
    run-popped c.pop_first.result c.self.inside.run.items c.self.inside.strays c.pop_first.new.self c.self.invariant c.pop_first.ensures.some c.pop_first.ensures.none

pub returns-then-is_first-clause-some : goal.returns-then-is_first-clause-some
returns-then-is_first-clause-some g c =
    run-gives c.pop_front.result c.self.inside.run.items c.pop_front.new.self.items c.self.inside.strays c.args.self.now c.self.view_is c.self.invariant
    (sym c.is_first.ensures ∙ c.if-is_first.true) c.pop_front.ensures.items

pub returns-else-is_first-clause-some : goal.returns-else-is_first-clause-some
returns-else-is_first-clause-some g c =
    strays-give c.pop_first.result c.self.inside.run.items c.self.inside.strays c.pop_first.new.self c.args.self.now c.self.view_is c.self.invariant
    (sym c.is_first.ensures ∙ c.if-is_first.false) c.pop_first.ensures.some

pub returns-else-is_first-clause-none : goal.returns-else-is_first-clause-none
returns-else-is_first-clause-none g c =
    none-left c.pop_first.result c.self.inside.run.items c.self.inside.strays c.pop_first.new.self c.args.self.now c.self.view_is
    (sym c.is_first.ensures ∙ c.if-is_first.false) c.pop_first.ensures.none
