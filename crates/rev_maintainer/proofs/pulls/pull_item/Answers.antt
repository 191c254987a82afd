use Rattle.std.proofs.Common.{◌∙◌, ap, sym, subst}
use Rattle.rev_items.specs.Rules.{is_past}
use Rattle.rev_inverse.specs.Telling.{Tells}
use Rattle.rev_model.specs.declared.Globals.{Globals}
use Rattle.rev_model.specs.declared.Queue.TheVariants.{Hot, Warm, Cold}
use Rattle.rev_maintainer.proofs.Arms.{live_done, live_gone, dead_done, dead_gone}
use Rattle.rev_maintainer.proofs.pulls.pull_item.Goals as goal

pub returns-in-Hot-clause-done : goal.returns-in-Hot-clause-done
returns-in-Hot-clause-done g c =
    let s = c.args.store.now in
    let at = c.requires.stands in
    let read = sym c.header.ensures ∙ c.in-Some.is in
    let asked = c.is_dead.ensures ∙ ap (λ (z : Globals). is_past z.clock z.flush_limit c.in-Some.item.moment c.in-Some.item.cas) c.globals.ensures in
    live_done s c.args.class c.args.queue c.args.mode c.args.chunk at.0 at.1.item c.in-Some.item read _ asked c.if-is_dead.false Hot c.in-Hot.is _ (c.pull_hot.ensures.done at.0 at.1.item)

pub returns-in-Hot-clause-told : goal.returns-in-Hot-clause-told
returns-in-Hot-clause-told g c =
    let s = c.args.store.now in
    let at = c.requires.stands in
    let read = sym c.header.ensures ∙ c.in-Some.is in
    let asked = c.is_dead.ensures ∙ ap (λ (z : Globals). is_past z.clock z.flush_limit c.in-Some.item.moment c.in-Some.item.cas) c.globals.ensures in
    subst (Tells c.args.undo.now s c.pull_hot.new.undo c.pull_hot.new.store) (live_gone s c.args.class c.args.queue c.args.mode c.args.chunk at.0 at.1.item c.in-Some.item read _ asked c.if-is_dead.false Hot c.in-Hot.is) (c.pull_hot.ensures.told at.0 at.1.item)

pub returns-in-Warm-clause-done : goal.returns-in-Warm-clause-done
returns-in-Warm-clause-done g c =
    let s = c.args.store.now in
    let at = c.requires.stands in
    let read = sym c.header.ensures ∙ c.in-Some.is in
    let asked = c.is_dead.ensures ∙ ap (λ (z : Globals). is_past z.clock z.flush_limit c.in-Some.item.moment c.in-Some.item.cas) c.globals.ensures in
    live_done s c.args.class c.args.queue c.args.mode c.args.chunk at.0 at.1.item c.in-Some.item read _ asked c.if-is_dead.false Warm c.in-Warm.is _ (c.pull_warm.ensures.done at.0 at.1.item)

pub returns-in-Warm-clause-told : goal.returns-in-Warm-clause-told
returns-in-Warm-clause-told g c =
    let s = c.args.store.now in
    let at = c.requires.stands in
    let read = sym c.header.ensures ∙ c.in-Some.is in
    let asked = c.is_dead.ensures ∙ ap (λ (z : Globals). is_past z.clock z.flush_limit c.in-Some.item.moment c.in-Some.item.cas) c.globals.ensures in
    subst (Tells c.args.undo.now s c.pull_warm.new.undo c.pull_warm.new.store) (live_gone s c.args.class c.args.queue c.args.mode c.args.chunk at.0 at.1.item c.in-Some.item read _ asked c.if-is_dead.false Warm c.in-Warm.is) (c.pull_warm.ensures.told at.0 at.1.item)

pub returns-in-Cold-clause-done : goal.returns-in-Cold-clause-done
returns-in-Cold-clause-done g c =
    let s = c.args.store.now in
    let at = c.requires.stands in
    let read = sym c.header.ensures ∙ c.in-Some.is in
    let asked = c.is_dead.ensures ∙ ap (λ (z : Globals). is_past z.clock z.flush_limit c.in-Some.item.moment c.in-Some.item.cas) c.globals.ensures in
    live_done s c.args.class c.args.queue c.args.mode c.args.chunk at.0 at.1.item c.in-Some.item read _ asked c.if-is_dead.false Cold c.in-Cold.is _ (c.pull_cold.ensures.done at.0 at.1.item)

pub returns-in-Cold-clause-told : goal.returns-in-Cold-clause-told
returns-in-Cold-clause-told g c =
    let s = c.args.store.now in
    let at = c.requires.stands in
    let read = sym c.header.ensures ∙ c.in-Some.is in
    let asked = c.is_dead.ensures ∙ ap (λ (z : Globals). is_past z.clock z.flush_limit c.in-Some.item.moment c.in-Some.item.cas) c.globals.ensures in
    subst (Tells c.args.undo.now s c.pull_cold.new.undo c.pull_cold.new.store) (live_gone s c.args.class c.args.queue c.args.mode c.args.chunk at.0 at.1.item c.in-Some.item read _ asked c.if-is_dead.false Cold c.in-Cold.is) (c.pull_cold.ensures.told at.0 at.1.item)

pub returns-then-is_dead-clause-done : goal.returns-then-is_dead-clause-done
returns-then-is_dead-clause-done g c =
    let s = c.args.store.now in
    let at = c.requires.stands in
    let read = sym c.header.ensures ∙ c.in-Some.is in
    let asked = c.is_dead.ensures ∙ ap (λ (z : Globals). is_past z.clock z.flush_limit c.in-Some.item.moment c.in-Some.item.cas) c.globals.ensures in
    dead_done s c.args.class c.args.queue c.args.mode c.args.chunk at.0 at.1.item c.in-Some.item read _ asked c.if-is_dead.true _ (c.discard.ensures.state at.0 at.1.item)

pub returns-then-is_dead-clause-told : goal.returns-then-is_dead-clause-told
returns-then-is_dead-clause-told g c =
    let s = c.args.store.now in
    let at = c.requires.stands in
    let read = sym c.header.ensures ∙ c.in-Some.is in
    let asked = c.is_dead.ensures ∙ ap (λ (z : Globals). is_past z.clock z.flush_limit c.in-Some.item.moment c.in-Some.item.cas) c.globals.ensures in
    subst (Tells c.args.undo.now s c.discard.new.undo c.discard.new.store) (dead_gone s c.args.class c.args.queue c.args.mode c.args.chunk at.0 at.1.item c.in-Some.item read _ asked c.if-is_dead.true) c.discard.ensures.told
