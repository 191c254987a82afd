use Rattle.std.proofs.Common.{◌∙◌, ap}
use Rattle.rev_model.specs.State.{State, per_page}
use Rattle.rev_inverse.proofs.Paging.{per_page_is, state_of}
use Rattle.rev_inverse.proofs.store.Store.parts.Goals as goal

pub returns : goal.returns
returns g c =
    let s = state_of c.self.view_is in
    c.fill.ensures ∙ c.in_ok-pages.ensures ∙ c.per_page-count.ensures.count ∙ per_page_is s.fixed c.args.class c.requires.class.0 ∙ ap (λ (t : State). per_page t.fixed c.args.class) c.self.view_is
