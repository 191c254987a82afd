use Rattle.std.proofs.Common.{arith}
use Rattle.rev_pages.proofs.Giving.{last_cell, pop_some, pop_kept, pop_value}
use Rattle.rev_pages.proofs.pages.Pages.pop_owner.Goals as goal

pub index_mut-requires : goal.index_mut-requires
index_mut-requires g c =
    let s = c.self.inside in
    let a = last_cell s.owners.items s.made s.owned.items s.table.ends s.table.links c.self.invariant c.args.self.now c.self.view_is c.requires.some _ c.from.ensures _ _ c.index.ensures c.from-class.ensures in
    omega (arith, a, s.owned.ok.0)

pub overflow_sub-index_mut : goal.overflow_sub-index_mut
overflow_sub-index_mut g c =
    let s = c.self.inside in
    let a = pop_some s.owners.items s.made s.owned.items s.table.ends s.table.links c.self.invariant c.args.self.now c.self.view_is c.requires.some _ c.from.ensures _ _ c.index.ensures c.from-class.ensures _ c.index_mut.ensures.value in
    omega (arith, a)

pub invariant_of-self : goal.invariant_of-self
invariant_of-self g c =
    let s = c.self.inside in
    pop_kept s.owners.items s.made s.owned.items s.table.ends s.table.links c.self.invariant c.args.self.now c.self.view_is c.requires.some _ c.from.ensures _ _ c.index.ensures c.from-class.ensures _ c.index_mut.ensures.value

pub returns : goal.returns
returns g c =
    let s = c.self.inside in
    pop_value s.owners.items s.made s.owned.items s.table.ends s.table.links c.self.invariant c.args.self.now c.self.view_is c.requires.some _ c.from.ensures
