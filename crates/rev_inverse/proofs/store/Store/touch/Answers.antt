use Rattle.std.proofs.Common.{sym, subst, rules}
use Rattle.rev_model.specs.Move.{Possible, Touches}
use Rattle.rev_model.proofs.Slots.{touch_there}
use Rattle.rev_inverse.proofs.Fits.{fitted_touched}
use Rattle.rev_inverse.proofs.store.Store.touch.Goals as goal

pub touch-requires : goal.touch-requires
touch-requires g c =
    let p = subst (Possible (Touches c.args.chunk c.args.next)) (sym c.self.view_is) c.requires.possible in
    touch_there _ _ _ p

pub invariant_of-self : goal.invariant_of-self
invariant_of-self g c = fitted_touched _ _ _ _ _ c.self.invariant _ c.args.chunk c.args.next c.touch.ensures.after

pub returns-clause-before : goal.returns-clause-before
returns-clause-before g c = search rules steps 500000
