use Rattle.std.proofs.Common.{sym, ◌∙◌, ap, subst, set}
use Rattle.rev_index.specs.Index.{index_of, IsChained}
use Rattle.rev_index.proofs.Fills.{lay_clear, page_table, exchange_chained, exchange_value}
use Rattle.rev_index.proofs.index.Index.lay.Goals as goal

pub lay-requires : goal.lay-requires
lay-requires g c =
    let s = c.self.inside in
    (page_table s.chains.ends.items s.chains.links s.items c.self.invariant c.args.self.now c.self.view_is c.args.page c.requires.page).1

pub lay-requires-2 : goal.lay-requires-2
lay-requires-2 g c =
    let s = c.self.inside in
    (page_table s.chains.ends.items s.chains.links s.items c.self.invariant c.args.self.now c.self.view_is c.args.page c.requires.page).0

pub invariant_of-self : goal.invariant_of-self
invariant_of-self g c =
    let s = c.self.inside in
    subst (λ l. IsChained s.chains.ends.items l c.lay-2.new.self) (sym c.lay.ensures) (subst (IsChained s.chains.ends.items (set s.chains.links c.args.page c.slots.inside.links.items)) (sym c.lay-2.ensures)
    (exchange_chained s.chains.ends.items s.chains.links s.items c.self.invariant c.args.self.now c.self.view_is c.args.page c.slots.inside.items.items c.slots.inside.links.items c.slots.invariant (lay_clear s.chains.ends.items s.chains.links s.items c.self.invariant c.args.self.now c.self.view_is c.args.page c.requires.empty)))

pub returns : goal.returns
returns g c =
    let s = c.self.inside in
    ap (λ l. index_of s.chains.ends.items l c.lay-2.new.self) c.lay.ensures ∙ (ap (index_of s.chains.ends.items (set s.chains.links c.args.page c.slots.inside.links.items)) c.lay-2.ensures
    ∙ exchange_value s.chains.ends.items s.chains.links s.items c.self.invariant c.args.self.now c.self.view_is c.args.page c.slots.inside.items.items c.slots.inside.links.items c.slots.invariant (lay_clear s.chains.ends.items s.chains.links s.items c.self.invariant c.args.self.now c.self.view_is c.args.page c.requires.empty) c.args.slots c.slots.view_is)
