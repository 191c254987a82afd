use Rattle.std.proofs.Common.{◌+◌, ◌*◌, replicate, ◌∙◌, ap}
use Rattle.rev_inverse.proofs.Opened.{opened_fits, opened_value}
use Rattle.rev_inverse.proofs.store.Store.over.Goals as goal

pub invariant_of-result : goal.invariant_of-result
invariant_of-result g c = opened_fits c.args.config.now c.args.table _ _ _ c.in_ok-pages.ensures.pages c.in_ok-pages.ensures.queues c.in_ok-pages.ensures.index _ c.requires.limits c.in_ok-bump.ensures.capacity

pub returns : goal.returns
returns g c =
    opened_value c.args.config.now c.args.table _ _ _ c.in_ok-pages.ensures.pages c.in_ok-pages.ensures.queues c.in_ok-pages.ensures.index _ _ _ c.requires.table c.in_ok-bump.ensures.items
    (c.in_ok-counters.ensures.items_if_clones_equal (λ y u. u) ∙ ap (λ n. replicate (7 * (n + 1)) 0) c.last.ensures.last) c.first_globals.ensures
