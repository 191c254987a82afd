use Rattle.std.proofs.Common.{map, sym, subst, ◌∙◌, ap}
use Rattle.rev_model.specs.Move.{Possible, Lays}
use Rattle.rev_model.specs.Move as model
use Rattle.rev_model.specs.State.{WellFormed}
use Rattle.rev_queues.specs.Entries.{entries}
use Rattle.rev_inverse.proofs.Paging.{fitted_laid, lay_fits, state_of, state_laid}
use Rattle.rev_inverse.proofs.store.Store.lay.Goals as goal

pub lay-requires : goal.lay-requires
lay-requires g c =
    let well = subst WellFormed (sym c.self.view_is) c.requires.well in
    let p = subst (Possible (Lays c.args.page c.args.class c.args.parts c.args.form)) (sym c.self.view_is) c.requires.possible in
    let fits = lay_fits _ _ _ _ _ c.self.invariant well _ _ _ _ p in
    record { class = fits.class; page = fits.can; empty = fits.empty }

pub lay-requires-2 : goal.lay-requires-2
lay-requires-2 g c =
    let well = subst WellFormed (sym c.self.view_is) c.requires.well in
    let p = subst (Possible (Lays c.args.page c.args.class c.args.parts c.args.form)) (sym c.self.view_is) c.requires.possible in
    let fits = lay_fits _ _ _ _ _ c.self.invariant well _ _ _ _ p in
    record { page = rw c.self.invariant.in_queues fits.there; empty = rw c.self.invariant.in_queues fits.empty }

pub lay-requires-3 : goal.lay-requires-3
lay-requires-3 g c =
    let well = subst WellFormed (sym c.self.view_is) c.requires.well in
    let p = subst (Possible (Lays c.args.page c.args.class c.args.parts c.args.form)) (sym c.self.view_is) c.requires.possible in
    let fits = lay_fits _ _ _ _ _ c.self.invariant well _ _ _ _ p in
    record { page = rw c.self.invariant.in_index fits.there; empty = rw c.self.invariant.in_index fits.empty }

pub invariant_of-self : goal.invariant_of-self
invariant_of-self g c =
    let well = subst WellFormed (sym c.self.view_is) c.requires.well in
    let p = subst (Possible (Lays c.args.page c.args.class c.args.parts c.args.form)) (sym c.self.view_is) c.requires.possible in
    let fits = lay_fits _ _ _ _ _ c.self.invariant well _ _ _ _ p in
    let n = c.unshelve-pages.ensures.pages in
    let m = c.unshelve-pages.ensures.queues in
    let k = c.unshelve-pages.ensures.index in
    fitted_laid _ _ _ _ _ c.self.invariant _ _ _ c.args.page c.args.class _ _ _ c.args.form fits.can fits.there (n ∙ fits.count) (m ∙ sym n) (k ∙ sym n) c.lay.ensures (λ i. record { queues = c.lay-2.ensures.queues i; slots = c.lay-2.ensures.slots i }) c.lay-3.ensures

pub returns : goal.returns
returns g c =
    let n = c.unshelve-pages.ensures.pages in
    let s = state_of c.self.view_is in
    record {
      state =
          (λ i. record s { owner = (c.lay.ensures i).owner; free = (c.lay.ensures i).free; queues = map entries (c.lay-2.ensures.queues i); content = (c.lay-3.ensures i).content; index = (c.lay-3.ensures i).keys })
          ∙ state_laid s c.self.inside.pages.slots c.args.page c.args.class c.unshelve-pages.result.pages c.args.form
          ∙ ap (λ k. model.laid c.args.page c.args.class k c.args.form s) n
          ∙ ap (model.laid c.args.page c.args.class c.args.parts c.args.form) c.self.view_is;
    }
