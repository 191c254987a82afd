use Rattle.std.proofs.Common.{arith}
use Rattle.rev_pages.proofs.Steps.{few_classes}
use Rattle.rev_pages.proofs.Giving.{has_cell, push_fits, push_kept, push_value}
use Rattle.rev_pages.proofs.pages.Pages.push_owner.Goals as goal

pub index_mut-requires : goal.index_mut-requires
index_mut-requires g c =
    let s = c.self.inside in
    let a = has_cell s.owners.items s.made s.owned.items s.table.ends s.table.links c.self.invariant c.args.self.now c.self.view_is c.args.class c.requires.class in
    omega (arith, a, s.owned.ok.0)

pub overflow_add-index_mut : goal.overflow_add-index_mut
overflow_add-index_mut g c =
    let s = c.self.inside in
    let a = push_fits s.owners.items s.made s.owned.items s.table.ends s.table.links c.self.invariant c.args.self.now c.self.view_is c.args.class c.requires.class c.requires.room _ c.index_mut.ensures.value in
    omega (arith, a)

pub overflow_cast-class : goal.overflow_cast-class
overflow_cast-class g c =
    let s = c.self.inside in
    let a = few_classes s.owners.items s.made s.table.ends s.table.links c.self.invariant.linked c.args.self.now c.self.view_is c.args.class c.requires.class in
    omega (arith, a)

pub invariant_of-self : goal.invariant_of-self
invariant_of-self g c =
    let s = c.self.inside in
    push_kept s.owners.items s.made s.owned.items s.table.ends s.table.links c.self.invariant c.args.self.now c.self.view_is c.args.class c.requires.class c.requires.room _ c.index_mut.ensures.value _ c.from.ensures

pub returns : goal.returns
returns g c =
    let s = c.self.inside in
    push_value s.owners.items s.made s.owned.items s.table.ends s.table.links c.self.invariant c.args.self.now c.self.view_is c.args.class c.requires.class c.requires.room _ c.from.ensures
