use Rattle.std.proofs.Common.{arith}
use Rattle.rev_pages.proofs.Steps.{few_classes}
use Rattle.rev_pages.proofs.Giving.{has_cell, left_cell, left_some, set_fits, set_kept, set_value}
use Rattle.rev_pages.proofs.pages.Pages.set_owner.Goals as goal

pub index_mut-requires : goal.index_mut-requires
index_mut-requires g c =
    let s = c.self.inside in
    let a = left_cell s.owners.items s.made s.owned.items s.table.ends s.table.links c.self.invariant c.args.self.now c.self.view_is c.args.page c.args.class c.requires.class c.requires.page _ c.from-page.ensures _ _ c.index.ensures c.from-left.ensures in
    omega (arith, a, s.owned.ok.0)

pub overflow_sub-index_mut : goal.overflow_sub-index_mut
overflow_sub-index_mut g c =
    let s = c.self.inside in
    let a = left_some s.owners.items s.made s.owned.items s.table.ends s.table.links c.self.invariant c.args.self.now c.self.view_is c.args.page c.args.class c.requires.class c.requires.page _ c.from-page.ensures _ _ c.index.ensures c.from-left.ensures _ c.index_mut.ensures.value in
    omega (arith, a)

pub index_mut-requires-2 : goal.index_mut-requires-2
index_mut-requires-2 g c =
    let s = c.self.inside in
    let a = has_cell s.owners.items s.made s.owned.items s.table.ends s.table.links c.self.invariant c.args.self.now c.self.view_is c.args.class c.requires.class in
    omega (arith, a, s.owned.ok.0)

pub overflow_add-index_mut : goal.overflow_add-index_mut
overflow_add-index_mut g c =
    let s = c.self.inside in
    let a = set_fits s.owners.items s.made s.owned.items s.table.ends s.table.links c.self.invariant c.args.self.now c.self.view_is c.args.page c.args.class c.requires.class c.requires.page _ c.from-page.ensures _ _ c.index.ensures c.from-left.ensures _ c.index_mut.ensures.value _ c.index_mut-2.ensures.value in
    omega (arith, a)

pub overflow_cast-class : goal.overflow_cast-class
overflow_cast-class g c =
    let s = c.self.inside in
    let a = few_classes s.owners.items s.made s.table.ends s.table.links c.self.invariant.linked c.args.self.now c.self.view_is c.args.class c.requires.class in
    omega (arith, a)

pub invariant_of-self : goal.invariant_of-self
invariant_of-self g c =
    let s = c.self.inside in
    set_kept s.owners.items s.made s.owned.items s.table.ends s.table.links c.self.invariant c.args.self.now c.self.view_is c.args.page c.args.class c.requires.class c.requires.page _ c.from-page.ensures _ _ c.index.ensures c.from-left.ensures _ c.index_mut.ensures.value _ c.index_mut-2.ensures.value

pub returns : goal.returns
returns g c =
    let s = c.self.inside in
    set_value s.owners.items s.made s.owned.items s.table.ends s.table.links c.self.invariant c.args.self.now c.self.view_is c.args.page c.args.class c.requires.class c.requires.page _ c.from-page.ensures
