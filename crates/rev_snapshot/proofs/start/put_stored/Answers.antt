use Rattle.std.proofs.Common.{◌≡◌, w32, to_z, of_z, rules, ap, ◌∙◌}
use Rattle.std.proofs.lemmas.Int.{to_z-of_z}
use Rattle.std.proofs.lemmas.Result.{on_ok_weaker}
use Rattle.rev_import.specs.Writing.{Writes}
use Rattle.rev_snapshot.proofs.Starting.{reset, by_warmth}
use Rattle.rev_snapshot.proofs.start.put_stored.Goals as goal

pub returns : goal.returns
returns g c =
    let range : to_z w32 (of_z w32 c.args.placed.now.item.exptime) ≡ c.args.placed.now.item.exptime = search (rules, to_z-of_z) in
    on_ok_weaker c.put_set.result (λ x. by_warmth _ _ _ _ _ _ c.is_warm-warm.ensures (reset _ _ _ _ _ _ range x)) c.put_set.ensures
