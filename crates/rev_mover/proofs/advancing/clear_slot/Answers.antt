use Rattle.rev_model.specs.State.{item_at}
use Rattle.rev_mover.specs.Moving.{slot_chunk}
use Rattle.rev_mover.proofs.Slots.{slot_is_free}
use Rattle.rev_mover.proofs.Steps.{still_left}
use Rattle.rev_mover.proofs.advancing.clear_slot.Goals as goal

pub clear-outcome-requires-clause-free : goal.clear-outcome-requires-clause-free
clear-outcome-requires-clause-free g c = rw c.from.ensures λ none. slot_is_free c.args.store.now c.args.mover c.requires.sound c.requires.left.is c.requires.left.slot none

pub pass_slot-requires-clause-left : goal.pass_slot-requires-clause-left
pass_slot-requires-clause-left g c =
    let s = c.args.store.now in
    let m = c.args.mover in
    still_left s c.clear-outcome.new.store c.clear-outcome.result m c.from.result (slot_chunk m) (item_at s (slot_chunk m)) c.clear-outcome.ensures.done c.requires.left

pub returns-clause-leads : goal.returns-clause-leads
returns-clause-leads g c = λ first l. c.pass_slot.ensures.leads first (c.clear-outcome.ensures.leads first l)
