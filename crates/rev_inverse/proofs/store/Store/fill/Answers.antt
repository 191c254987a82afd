use Rattle.std.proofs.Common.{sym, subst, refl}
use Rattle.rev_model.specs.Move.{Possible, Fills}
use Rattle.rev_model.proofs.Slots.{fill_keeps_key}
use Rattle.rev_inverse.proofs.Fits.{fitted_filled, gone_fill}
use Rattle.rev_inverse.proofs.store.Store.fill.Goals as goal

pub fill-requires-clause-bound : goal.fill-requires-clause-bound
fill-requires-clause-bound g c = fill_keeps_key _ _ _ (subst (Possible (Fills c.args.chunk c.args.item)) (sym c.self.view_is) c.requires.possible)

pub invariant_of-self : goal.invariant_of-self
invariant_of-self g c =
    let p = subst (Possible (Fills c.args.chunk c.args.item)) (sym c.self.view_is) c.requires.possible in
    fitted_filled _ _ _ _ _ c.self.invariant _ c.args.chunk c.args.item (gone_fill _ _ refl _ _ p) c.fill.ensures.after
