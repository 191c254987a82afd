use Rattle.std.proofs.Common.{sym, ◌∙◌, ap}
use Rattle.std.specs.List.{sum_by}
use Rattle.rev_model.specs.State.{queue_place}
use Rattle.rev_model.specs.Words.{weight}
use Rattle.rev_queues.proofs.Entries.{entries-at, footprints_weigh}
use Rattle.rev_inverse.proofs.store.Store.bytes.Goals as goal

pub returns : goal.returns
returns g c =
    let p = queue_place c.args.class c.args.queue in
    rw (← c.self.view_is) (c.queue_bytes.ensures ∙ footprints_weigh (weight _) _ (c.self.invariant.told p) ∙ ap (sum_by (weight _)) (sym (entries-at _ p)))
