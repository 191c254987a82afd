use Rattle.std.proofs.Common.{rules, ◌≡◌, false, nat_eq, refl}
use Rattle.rev_items.proofs.footprint.Goals as goal
use Rattle.rev_items.proofs.footprint.Goals.{then-flags-eq0, else-flags-eq0}

pub returns : goal.returns
returns g c =
    elim c.if-flags-eq0.branch [
      | then-flags-eq0 w ↦ rw (w.flag_bytes-is, w.if-flags-eq0.true, c.bytes.ensures.same) refl
      | else-flags-eq0 w ↦
          let some : nat_eq c.args.flags 0 ≡ false = search rules in
          rw (w.flag_bytes-is, some, c.bytes.ensures.same) refl
    ]
