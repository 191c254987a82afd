use Rattle.std.proofs.Common.{◌≡◌, ◌<◌, ◌≤◌, length, sym, ◌∙◌, ap, refl, arith}
use Rattle.rev_model.specs.State.{State}
use Rattle.rev_model.specs.Move.{names}
use Rattle.rev_inverse.proofs.Marking.{with_mark, none_changed, end_changed, marked_is, pool_not_named, step_none, step_apart, step_changed, step_not}
use Rattle.rev_inverse.proofs.store.Store.mark_all.Goals.{then-is_named, else-is_named}
use Rattle.rev_inverse.proofs.store.Store.mark_all.Goals as goal

pub loop-place-init : goal.loop-place-init
loop-place-init g c = (refl, none_changed with_mark (names c.args.self.now c.args.set) c.args.self.now.queues (pool_not_named c.args.self.now c.args.set 63 c.requires.possible.ready.0))

pub mark-requires-clause-none : goal.mark-requires-clause-none
mark-requires-clause-none g c = step_none with_mark _ _ _ _ c.loop-place.invariant.0 c.loop-place.invariant.1 c.requires.possible.ready.1 c.queue_at.result c.queue_at.ensures (sym c.is_named.ensures ∙ c.if-is_named.true)

pub mark-requires-clause-apart : goal.mark-requires-clause-apart
mark-requires-clause-apart g c = step_apart with_mark _ c.args.set _ _ c.loop-place.invariant.0 c.loop-place.invariant.1 c.requires.well c.queue_at.result c.queue_at.ensures

pub loop-place-preserved : goal.loop-place-preserved
loop-place-preserved g c = elim c.if-is_named.branch [
  | then-is_named w ↦
      let classes : length c.self.inside.table.sizes ≡ length c.args.self.now.fixed.sizes = ap (λ (s : State). length s.fixed.sizes) c.self.view_is in
      let lt : c.loop-place.place < length c.args.self.now.queues = omega (arith, c.loop-place-test.true, c.requires.well.lists.queues_length, c.last.ensures.last, classes) in
      step_changed with_mark _ _ _ _ c.loop-place.invariant.0 c.loop-place.invariant.1 w.queue_at.result w.queue_at.ensures (sym c.is_named.ensures ∙ w.if-is_named.true) lt _ (w.self-is ∙ w.mark.ensures)
  | else-is_named w ↦ step_not with_mark _ _ _ _ c.loop-place.invariant.0 c.loop-place.invariant.1 (sym c.is_named.ensures ∙ w.if-is_named.false) _ w.self-is
]

pub returns : goal.returns
returns g c =
    let classes : length c.self.inside.table.sizes ≡ length c.args.self.now.fixed.sizes = ap (λ (s : State). length s.fixed.sizes) c.self.view_is in
    let end : length c.args.self.now.queues ≤ c.loop-place.place = omega (arith, c.loop-place-test.false, c.requires.well.lists.queues_length, c.last.ensures.last, classes) in
    record { state = c.loop-place.invariant.0 ∙ ap (λ l. record c.args.self.now { queues = l }) (end_changed with_mark _ _ _ _ end c.loop-place.invariant.1 ∙ marked_is (names c.args.self.now c.args.set) 0 c.args.self.now.queues) }
