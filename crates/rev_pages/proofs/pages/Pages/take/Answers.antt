use Rattle.std.proofs.Common.{ap, ◌∙◌, arith}
use Rattle.rev_pages.specs.State.{PagesState}
use Rattle.rev_pages.proofs.Steps.{take_between, take_before, take_linked, take_value}
use Rattle.rev_pages.proofs.Counts.{counted_after}
use Rattle.rev_pages.proofs.pages.Pages.take.Goals as goal

pub close-requires : goal.close-requires
close-requires g c = take_between c.self.inside.owners.items c.self.inside.made c.self.inside.table.ends c.self.inside.table.links c.self.invariant.linked c.args.self.now c.self.view_is c.args.class c.requires.class c.args.chunk c.requires.there

pub invariant_of-self : goal.invariant_of-self
invariant_of-self g c = record {
  linked = take_linked c.self.inside.owners.items c.self.inside.made c.self.inside.table.ends c.self.inside.table.links c.self.invariant.linked c.args.self.now c.self.view_is c.args.class c.requires.class c.args.chunk c.requires.there _ _ c.close.ensures.shape c.close.ensures.value;
  counted = counted_after _ _ _ _ _ _ c.close.ensures.shape c.self.invariant.counted;
}

pub returns-clause-before : goal.returns-clause-before
returns-clause-before g c = c.chunk_at.ensures ∙ take_before c.self.inside.owners.items c.self.inside.made c.self.inside.table.ends c.self.inside.table.links c.self.invariant.linked c.args.self.now c.self.view_is c.args.class c.requires.class c.args.chunk c.requires.there _ c.close.ensures.before

pub returns-clause-free : goal.returns-clause-free
returns-clause-free g c = ap (λ (w : PagesState). w.free) (take_value c.self.inside.owners.items c.self.inside.made c.self.inside.table.ends c.self.inside.table.links c.self.invariant.linked c.args.self.now c.self.view_is c.args.class c.requires.class c.args.chunk c.requires.there _ _ c.close.ensures.shape c.close.ensures.value)

pub returns-clause-owner : goal.returns-clause-owner
returns-clause-owner g c = ap (λ (w : PagesState). w.owner) (take_value c.self.inside.owners.items c.self.inside.made c.self.inside.table.ends c.self.inside.table.links c.self.invariant.linked c.args.self.now c.self.view_is c.args.class c.requires.class c.args.chunk c.requires.there _ _ c.close.ensures.shape c.close.ensures.value)

pub returns-clause-slots : goal.returns-clause-slots
returns-clause-slots g c = ap (λ (w : PagesState). w.slots) (take_value c.self.inside.owners.items c.self.inside.made c.self.inside.table.ends c.self.inside.table.links c.self.invariant.linked c.args.self.now c.self.view_is c.args.class c.requires.class c.args.chunk c.requires.there _ _ c.close.ensures.shape c.close.ensures.value)

pub returns-clause-cost : goal.returns-clause-cost
returns-clause-cost g c = let e = c.close.ensures.cost in omega (arith, e)
