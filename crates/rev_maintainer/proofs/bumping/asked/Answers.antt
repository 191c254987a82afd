use Rattle.std.proofs.Common.{sym, ◌∙◌, arith}
use Rattle.rev_model.specs.declared.Queue.TheVariants.{Hot, Warm}
use Rattle.rev_maintainer.proofs.Bumps.{other_cas, not_active, not_cold, all_three, some_stands}
use Rattle.rev_maintainer.proofs.bumping.asked.Goals as goal
use Rattle.rev_maintainer.proofs.bumping.asked.Goals.{then-item-entry-via-then-item-entry, then-item-entry-via-else-item-entry+then-not-item}

pub returns-then-item-entry : goal.returns-then-item-entry
returns-then-item-entry g c =
    let h = sym c.in_ok-item.was ∙ c.header.ensures in
    elim c.then-item-entry.branch [
      | then-item-entry-via-then-item-entry w ↦ other_cas c.args.store.now c.args.entry c.in_ok-item.item h w.if-item-entry.true
      | then-item-entry-via-else-item-entry+then-not-item w ↦ not_active c.args.store.now c.args.entry c.in_ok-item.item h w.if-not-item.true
    ]

pub queue_with-requires-clause-there : goal.queue_with-requires-clause-there
queue_with-requires-clause-there g c =
    let h = sym c.in_ok-item.was ∙ c.header.ensures in
    rw c.owner-class.ensures (some_stands c.args.store.now c.args.entry c.in_ok-item.item h c.requires.sound)

pub returns-in-Cold : goal.returns-in-Cold
returns-in-Cold g c =
    let h = sym c.in_ok-item.was ∙ c.header.ensures in
    all_three c.args.store.now c.args.entry c.in_ok-item.item h c.requires.sound c.if-item-entry.false c.if-not-item.false (rw (← c.owner-class.ensures) (sym c.queue_with.ensures ∙ c.in-Cold.is))

pub returns-in-Hot : goal.returns-in-Hot
returns-in-Hot g c =
    let h = sym c.in_ok-item.was ∙ c.header.ensures in
    not_cold c.args.store.now c.args.entry c.in_ok-item.item h c.requires.sound Hot (rw (← c.owner-class.ensures) (sym c.queue_with.ensures ∙ c.in-Hot.is)) (omega arith)

pub returns-in-Warm : goal.returns-in-Warm
returns-in-Warm g c =
    let h = sym c.in_ok-item.was ∙ c.header.ensures in
    not_cold c.args.store.now c.args.entry c.in_ok-item.item h c.requires.sound Warm (rw (← c.owner-class.ensures) (sym c.queue_with.ensures ∙ c.in-Warm.is)) (omega arith)
