use Rattle.std.proofs.Common.{◌∙◌, arith}
use Rattle.rev_pages.proofs.Steps.{few_classes, end_at, front_value}
use Rattle.rev_pages.proofs.pages.Pages.front.Goals as goal

pub place_behind-end-requires : goal.place_behind-end-requires
place_behind-end-requires g c = few_classes c.self.inside.owners.items c.self.inside.made c.self.inside.table.ends c.self.inside.table.links c.self.invariant.linked c.args.self.now c.self.view_is c.args.class c.requires.class

pub link-requires : goal.link-requires
link-requires g c = end_at c.self.inside.owners.items c.self.inside.made c.self.inside.table.ends c.self.inside.table.links c.self.invariant.linked c.args.self.now c.self.view_is c.args.class c.requires.class _ c.place_behind-end.ensures

pub returns-clause-front : goal.returns-clause-front
returns-clause-front g c = c.chunk_at.ensures ∙ front_value c.self.inside.owners.items c.self.inside.made c.self.inside.table.ends c.self.inside.table.links c.self.invariant.linked c.args.self.now c.self.view_is c.args.class c.requires.class _ c.place_behind-end.ensures _ c.link.ensures.value

pub returns-clause-cost : goal.returns-clause-cost
returns-clause-cost g c = let e = c.link.ensures.cost in omega (arith, e)
