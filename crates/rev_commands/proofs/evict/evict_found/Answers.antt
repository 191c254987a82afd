use Rattle.std.proofs.Common.{subst, ap, arith}
use Rattle.std.specs.Prelude.{Some, refl}
use Rattle.rev_model.specs.declared.Cause.TheVariants as causes
use Rattle.rev_model.specs.declared.Outcome.TheVariants.{Evicted}
use Rattle.rev_inverse.specs.Telling.{Tells}
use Rattle.rev_edits.proofs.Telling.{tells_none}
use Rattle.rev_commands.specs.Looking.{evicted_need}
use Rattle.rev_commands.proofs.evict.evict_found.Goals as goal

pub evict_item-requires-clause-item : goal.evict_item-requires-clause-item
evict_item-requires-clause-item g c = c.requires.item c.in-Some.chunk c.in-Some.is

pub evict_item-requires-clause-room : goal.evict_item-requires-clause-room
evict_item-requires-clause-room g c = omega (arith, ap evicted_need c.in-Some.is, c.requires.room)

pub returns-in-Some-clause-done : goal.returns-in-Some-clause-done
returns-in-Some-clause-done g c =
    let i = c.requires.item c.in-Some.chunk c.in-Some.is in
    rw (c.in-Some.is, i.1) (ap (λ v. (v, Evicted)) (c.evict_item.ensures.state i.0 i.1))

pub returns-in-Some-clause-made : goal.returns-in-Some-clause-made
returns-in-Some-clause-made g c = omega (arith, ap evicted_need c.in-Some.is, c.evict_item.ensures.made)

pub returns-in-Some-clause-told : goal.returns-in-Some-clause-told
returns-in-Some-clause-told g c =
    let i = c.requires.item c.in-Some.chunk c.in-Some.is in
    subst (Tells c.args.undo.now c.args.store.now c.evict_item.new.undo c.evict_item.new.store) (rw (c.in-Some.is, i.1) refl) c.evict_item.ensures.told

pub returns-in-None-clause-done : goal.returns-in-None-clause-done
returns-in-None-clause-done g c = rw c.in-None.is refl

pub returns-in-None-clause-made : goal.returns-in-None-clause-made
returns-in-None-clause-made g c = omega (arith, ap evicted_need c.in-None.is)

pub returns-in-None-clause-told : goal.returns-in-None-clause-told
returns-in-None-clause-told g c = rw c.in-None.is (tells_none c.args.undo.now c.args.store.now)
