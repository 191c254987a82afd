use Rattle.std.proofs.Common.{ap, arith}
use Rattle.rev_pages.specs.State.{PagesState}
use Rattle.rev_pages.proofs.Steps.{few_classes, put_there, put_gap, put_apart, put_linked, put_value}
use Rattle.rev_pages.proofs.Counts.{counted_after}
use Rattle.rev_pages.proofs.pages.Pages.put_after.Goals as goal

pub place_behind-place-requires : goal.place_behind-place-requires
place_behind-place-requires g c = few_classes c.self.inside.owners.items c.self.inside.made c.self.inside.table.ends c.self.inside.table.links c.self.invariant.linked c.args.self.now c.self.view_is c.args.class c.requires.class

pub open-requires-clause-there : goal.open-requires-clause-there
open-requires-clause-there g c = put_there c.self.inside.owners.items c.self.inside.made c.self.inside.table.ends c.self.inside.table.links c.self.invariant.linked c.args.self.now c.self.view_is c.args.class c.requires.class c.args.chunk c.requires.nowhere c.args.after c.requires.after c.requires.slot

pub open-requires-clause-apart : goal.open-requires-clause-apart
open-requires-clause-apart g c = put_apart c.self.inside.owners.items c.self.inside.made c.self.inside.table.ends c.self.inside.table.links c.self.invariant.linked c.args.self.now c.self.view_is c.args.class c.requires.class c.args.chunk c.requires.nowhere c.args.after c.requires.after _ c.place_behind-place.ensures

pub open-requires-clause-gap : goal.open-requires-clause-gap
open-requires-clause-gap g c = put_gap c.self.inside.owners.items c.self.inside.made c.self.inside.table.ends c.self.inside.table.links c.self.invariant.linked c.args.self.now c.self.view_is c.args.class c.requires.class c.args.chunk c.requires.nowhere c.args.after c.requires.after _ c.place_behind-place.ensures

pub invariant_of-self : goal.invariant_of-self
invariant_of-self g c = record {
  linked = put_linked c.self.inside.owners.items c.self.inside.made c.self.inside.table.ends c.self.inside.table.links c.self.invariant.linked c.args.self.now c.self.view_is c.args.class c.requires.class c.args.chunk c.requires.nowhere c.args.after c.requires.after _ _ _ c.place_behind-place.ensures c.open.ensures.shape c.open.ensures.value;
  counted = counted_after _ _ _ _ _ _ c.open.ensures.shape c.self.invariant.counted;
}

pub returns-clause-free : goal.returns-clause-free
returns-clause-free g c = ap (λ (w : PagesState). w.free) (put_value c.self.inside.owners.items c.self.inside.made c.self.inside.table.ends c.self.inside.table.links c.self.invariant.linked c.args.self.now c.self.view_is c.args.class c.requires.class c.args.chunk c.requires.nowhere c.args.after c.requires.after _ _ _ c.place_behind-place.ensures c.open.ensures.shape c.open.ensures.value)

pub returns-clause-owner : goal.returns-clause-owner
returns-clause-owner g c = ap (λ (w : PagesState). w.owner) (put_value c.self.inside.owners.items c.self.inside.made c.self.inside.table.ends c.self.inside.table.links c.self.invariant.linked c.args.self.now c.self.view_is c.args.class c.requires.class c.args.chunk c.requires.nowhere c.args.after c.requires.after _ _ _ c.place_behind-place.ensures c.open.ensures.shape c.open.ensures.value)

pub returns-clause-slots : goal.returns-clause-slots
returns-clause-slots g c = ap (λ (w : PagesState). w.slots) (put_value c.self.inside.owners.items c.self.inside.made c.self.inside.table.ends c.self.inside.table.links c.self.invariant.linked c.args.self.now c.self.view_is c.args.class c.requires.class c.args.chunk c.requires.nowhere c.args.after c.requires.after _ _ _ c.place_behind-place.ensures c.open.ensures.shape c.open.ensures.value)

pub returns-clause-cost : goal.returns-clause-cost
returns-clause-cost g c = let e = c.open.ensures.cost in omega (arith, e)
