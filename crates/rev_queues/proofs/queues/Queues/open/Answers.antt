use Rattle.std.proofs.Common.{◌+◌, ◌*◌, length, replicate, ap, subst, sym, ◌∙◌, refl, arith}
use Rattle.rev_queues.specs.Empty.{AreEnds}
use Rattle.rev_queues.proofs.Exchanges.{no_tally, open_linked, open_value}
use Rattle.rev_queues.proofs.queues.Queues.open.Goals as goal

pub invariant_of-result : goal.invariant_of-result
invariant_of-result g c =
    open_linked c.over-ends.result c.over-marks.result c.in_ok-slots.slots c.over-tallies.result (4 * (c.last.result + 1)) (c.args.config.now.pages + 62)
    (let w = c.last.ensures.within in omega arith) (let r = c.requires in omega arith)
    (ap length c.over-ends.ensures ∙ c.in_ok-empty_ends.ensures.count) (subst AreEnds (sym c.over-ends.ensures) c.in_ok-empty_ends.ensures.empty)
    (ap length c.over-marks.ensures ∙ c.in_ok-empty_ends-2.ensures.count)
    (c.over-tallies.ensures ∙ (c.in_ok-vec.ensures.items_if_clones_equal (λ y u. u) ∙ ap (λ n. replicate n no_tally) c.from.ensures)) c.in_ok-slots.ensures

pub returns : goal.returns
returns g c =
    open_value c.over-ends.result c.over-marks.result c.in_ok-slots.slots c.over-tallies.result (4 * (c.last.result + 1)) (c.args.config.now.pages + 62)
    (let w = c.last.ensures.within in omega arith) (let r = c.requires in omega arith)
    (ap length c.over-ends.ensures ∙ c.in_ok-empty_ends.ensures.count) (subst AreEnds (sym c.over-ends.ensures) c.in_ok-empty_ends.ensures.empty)
    (ap length c.over-marks.ensures ∙ c.in_ok-empty_ends-2.ensures.count)
    (c.over-tallies.ensures ∙ (c.in_ok-vec.ensures.items_if_clones_equal (λ y u. u) ∙ ap (λ n. replicate n no_tally) c.from.ensures)) c.in_ok-slots.ensures
    (length c.args.table.now.sizes) c.args.config.now.pages (ap (λ n. 4 * (n + 1)) c.last.ensures.last) refl
