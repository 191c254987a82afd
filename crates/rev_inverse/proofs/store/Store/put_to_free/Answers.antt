use Rattle.std.proofs.Common.{sym, subst}
use Rattle.rev_model.specs.Move.{Possible, Puts}
use Rattle.rev_model.specs.State.{WellFormed}
use Rattle.rev_model.proofs.Slots.{put_free_slot, put_free_gone}
use Rattle.rev_model.specs.declared.Placed.TheVariants.{ToFree}
use Rattle.rev_inverse.proofs.Fits.{fitted_slot}
use Rattle.rev_inverse.proofs.store.Store.put_to_free.Goals as goal

pub put_free-requires-clause-slot : goal.put_free-requires-clause-slot
put_free-requires-clause-slot g c =
    let p = subst (Possible (Puts (ToFree c.args.class c.args.chunk c.args.after))) (sym c.self.view_is) c.requires.possible in
    let well = subst WellFormed (sym c.self.view_is) c.requires.well in
    fitted_slot _ _ _ _ _ c.self.invariant _ well.owned.pages (put_free_slot _ _ _ _ p)

pub put_free-requires-clause-nowhere : goal.put_free-requires-clause-nowhere
put_free-requires-clause-nowhere g c =
    let p = subst (Possible (Puts (ToFree c.args.class c.args.chunk c.args.after))) (sym c.self.view_is) c.requires.possible in
    put_free_gone _ _ _ _ p
