use Rattle.std.proofs.Common.{◌≡◌, ◌<◌, ◌≤◌, length, sym, ◌∙◌, ap, refl, arith}
use Rattle.rev_model.specs.State.{State}
use Rattle.rev_model.specs.Move.{names, front}
use Rattle.rev_inverse.proofs.Marking.{none_changed, end_changed, unmarked_is, pool_not_named, step_end, step_apart, step_changed, step_not}
use Rattle.rev_inverse.proofs.store.Store.unmark_all.Goals.{then-is_named, else-is_named}
use Rattle.rev_inverse.proofs.store.Store.unmark_all.Goals as goal

pub loop-place-init : goal.loop-place-init
loop-place-init g c = (refl, none_changed front (names c.args.self.now c.args.set) c.args.self.now.queues (pool_not_named c.args.self.now c.args.set 63 c.requires.possible.ready.0))

pub unmark-requires-clause-end : goal.unmark-requires-clause-end
unmark-requires-clause-end g c =
    let classes : length c.self.inside.table.sizes ≡ length c.args.self.now.fixed.sizes = ap (λ (s : State). length s.fixed.sizes) c.self.view_is in
    let lt : c.loop-place.place < length c.args.self.now.queues = omega (arith, c.loop-place-test.true, c.requires.well.lists.queues_length, c.last.ensures.last, classes) in
    step_end front _ _ _ _ c.loop-place.invariant.0 c.loop-place.invariant.1 c.requires.possible.ready.1 c.queue_at.result c.queue_at.ensures (sym c.is_named.ensures ∙ c.if-is_named.true) lt

pub unmark-requires-clause-apart : goal.unmark-requires-clause-apart
unmark-requires-clause-apart g c = step_apart front _ c.args.set _ _ c.loop-place.invariant.0 c.loop-place.invariant.1 c.requires.well c.queue_at.result c.queue_at.ensures

pub loop-place-preserved : goal.loop-place-preserved
loop-place-preserved g c = elim c.if-is_named.branch [
  | then-is_named w ↦
      let classes : length c.self.inside.table.sizes ≡ length c.args.self.now.fixed.sizes = ap (λ (s : State). length s.fixed.sizes) c.self.view_is in
      let lt : c.loop-place.place < length c.args.self.now.queues = omega (arith, c.loop-place-test.true, c.requires.well.lists.queues_length, c.last.ensures.last, classes) in
      step_changed front _ _ _ _ c.loop-place.invariant.0 c.loop-place.invariant.1 w.queue_at.result w.queue_at.ensures (sym c.is_named.ensures ∙ w.if-is_named.true) lt _ (w.self-is ∙ w.unmark.ensures)
  | else-is_named w ↦ step_not front _ _ _ _ c.loop-place.invariant.0 c.loop-place.invariant.1 (sym c.is_named.ensures ∙ w.if-is_named.false) _ w.self-is
]

pub returns : goal.returns
returns g c =
    let classes : length c.self.inside.table.sizes ≡ length c.args.self.now.fixed.sizes = ap (λ (s : State). length s.fixed.sizes) c.self.view_is in
    let end : length c.args.self.now.queues ≤ c.loop-place.place = omega (arith, c.loop-place-test.false, c.requires.well.lists.queues_length, c.last.ensures.last, classes) in
    record { state = c.loop-place.invariant.0 ∙ ap (λ l. record c.args.self.now { queues = l }) (end_changed front _ _ _ _ end c.loop-place.invariant.1 ∙ unmarked_is (names c.args.self.now c.args.set) 0 c.args.self.now.queues) }
