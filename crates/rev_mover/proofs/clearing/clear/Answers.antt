use Rattle.std.proofs.Common.{sym, ◌∙◌, subst}
use Rattle.rev_model.specs.State.{free_of, item_at}
use Rattle.rev_mover.proofs.Walking.{spare_there}
use Rattle.rev_mover.proofs.Steps.{rescue_planned, plan_none, plan_dead, plan_evict, plan_rescue, withdrawn_done, reclaimed_done, reclaimed_told, evicted_done, evicted_told, rescued_done, rescued_told}
use Rattle.rev_inverse.specs.Telling.{Tells}
use Rattle.rev_mover.proofs.clearing.clear.Goals as goal

pub rescue-requires-clause-free : goal.rescue-requires-clause-free
rescue-requires-clause-free g c =
    let s = c.args.store.now in
    let spare = rescue_planned s c.args.class c.args.chunk (item_at s c.args.chunk) c.in-Rescue.to (sym c.in-Rescue.is ∙ c.requires.plan) in
    spare_there c.args.chunk.page (free_of s c.args.class) c.in-Rescue.to spare

pub hold-requires-clause-free : goal.hold-requires-clause-free
hold-requires-clause-free g c =
    let w = plan_none c.args.store.now c.args.class c.args.chunk (item_at c.args.store.now c.args.chunk) (sym c.in-Withdraw.is ∙ c.requires.plan) in
    c.requires.free w

pub remove-requires-clause-item : goal.remove-requires-clause-item
remove-requires-clause-item g c =
    let w = plan_dead c.args.store.now c.args.class c.args.chunk (item_at c.args.store.now c.args.chunk) (sym c.in-Reclaim.is ∙ c.requires.plan) in
    (w.0, w.1)

pub remove-requires-in-Evict-clause-item : goal.remove-requires-in-Evict-clause-item
remove-requires-in-Evict-clause-item g c =
    let w = plan_evict c.args.store.now c.args.class c.args.chunk (item_at c.args.store.now c.args.chunk) (sym c.in-Evict.is ∙ c.requires.plan) in
    (w.0, w.1)

pub rescue-requires-clause-item : goal.rescue-requires-clause-item
rescue-requires-clause-item g c =
    let w = plan_rescue c.args.store.now c.args.class c.args.chunk (item_at c.args.store.now c.args.chunk) c.in-Rescue.to (sym c.in-Rescue.is ∙ c.requires.plan) in
    (w.0, w.1)

pub returns-in-Withdraw-clause-done : goal.returns-in-Withdraw-clause-done
returns-in-Withdraw-clause-done g c =
    let w = plan_none c.args.store.now c.args.class c.args.chunk (item_at c.args.store.now c.args.chunk) (sym c.in-Withdraw.is ∙ c.requires.plan) in
    withdrawn_done c.args.store.now c.args.class c.args.chunk (item_at c.args.store.now c.args.chunk) w _ c.hold.ensures.state

pub returns-in-Reclaim-clause-done : goal.returns-in-Reclaim-clause-done
returns-in-Reclaim-clause-done g c =
    let w = plan_dead c.args.store.now c.args.class c.args.chunk (item_at c.args.store.now c.args.chunk) (sym c.in-Reclaim.is ∙ c.requires.plan) in
    reclaimed_done c.args.store.now c.args.class c.args.chunk (item_at c.args.store.now c.args.chunk) w.0 w.1 w.2 _ (c.remove.ensures.state w.0 w.1)

pub returns-in-Reclaim-clause-told : goal.returns-in-Reclaim-clause-told
returns-in-Reclaim-clause-told g c =
    let w = plan_dead c.args.store.now c.args.class c.args.chunk (item_at c.args.store.now c.args.chunk) (sym c.in-Reclaim.is ∙ c.requires.plan) in
    subst (Tells c.args.undo.now c.args.store.now c.remove.new.undo c.remove.new.store) (reclaimed_told c.args.store.now c.args.class c.args.chunk (item_at c.args.store.now c.args.chunk) w.0 w.1 w.2) c.remove.ensures.told

pub returns-in-Evict-clause-done : goal.returns-in-Evict-clause-done
returns-in-Evict-clause-done g c =
    let w = plan_evict c.args.store.now c.args.class c.args.chunk (item_at c.args.store.now c.args.chunk) (sym c.in-Evict.is ∙ c.requires.plan) in
    evicted_done c.args.store.now c.args.class c.args.chunk (item_at c.args.store.now c.args.chunk) w.0 w.1 w.2 w.3 _ (c.remove-in-Evict.ensures.state w.0 w.1)

pub returns-in-Evict-clause-told : goal.returns-in-Evict-clause-told
returns-in-Evict-clause-told g c =
    let w = plan_evict c.args.store.now c.args.class c.args.chunk (item_at c.args.store.now c.args.chunk) (sym c.in-Evict.is ∙ c.requires.plan) in
    subst (Tells c.args.undo.now c.args.store.now c.remove-in-Evict.new.undo c.remove-in-Evict.new.store) (evicted_told c.args.store.now c.args.class c.args.chunk (item_at c.args.store.now c.args.chunk) w.0 w.1 w.2 w.3) c.remove-in-Evict.ensures.told

pub returns-in-Rescue-clause-done : goal.returns-in-Rescue-clause-done
returns-in-Rescue-clause-done g c =
    let w = plan_rescue c.args.store.now c.args.class c.args.chunk (item_at c.args.store.now c.args.chunk) c.in-Rescue.to (sym c.in-Rescue.is ∙ c.requires.plan) in
    rescued_done c.args.store.now c.args.class c.args.chunk (item_at c.args.store.now c.args.chunk) w.0 w.1 w.2 c.in-Rescue.to w.3 _ (c.rescue.ensures.state w.0 w.1)

pub returns-in-Rescue-clause-told : goal.returns-in-Rescue-clause-told
returns-in-Rescue-clause-told g c =
    let w = plan_rescue c.args.store.now c.args.class c.args.chunk (item_at c.args.store.now c.args.chunk) c.in-Rescue.to (sym c.in-Rescue.is ∙ c.requires.plan) in
    subst (Tells c.args.undo.now c.args.store.now c.rescue.new.undo c.rescue.new.store) (rescued_told c.args.store.now c.args.class c.args.chunk (item_at c.args.store.now c.args.chunk) w.0 w.1 w.2 c.in-Rescue.to w.3) c.rescue.ensures.told
