use Rattle.std.specs.Prelude.{◌≡◌, true, false, nat_eq, slice_index}
use Rattle.std.proofs.Common.{sym, ◌∙◌, arith, eq-eqb, ne_eqb}
use Rattle.rev_mover.proofs.Starting.{owned-more}
use Rattle.rev_mover.proofs.scheduling.pages_of.Goals as goal
use Rattle.rev_mover.proofs.scheduling.pages_of.Goals.{then-owner-class, else-owner-class}

pub loop-page-preserved : goal.loop-page-preserved
loop-page-preserved g c =
    let owner = c.args.store.now.owner in
    let more = owned-more c.args.class owner c.loop-page.page (omega arith) in
    elim c.if-owner-class.branch [
      | then-owner-class w ↦
          let e : nat_eq (slice_index c.args.store.now.owner c.loop-page.page) c.args.class ≡ true = eq-eqb _ _ (sym c.owner.ensures ∙ w.if-owner-class.true) in
          let m = rw e at more in
          record { counted = omega (arith, m); few = omega arith }
      | else-owner-class w ↦
          let e : nat_eq (slice_index c.args.store.now.owner c.loop-page.page) c.args.class ≡ false = ne_eqb _ _ (λ h. w.if-owner-class.false (c.owner.ensures ∙ h)) in
          let m = rw e at more in
          record { counted = omega (arith, m); few = omega arith }
    ]
