use Rattle.std.proofs.Common.{◌∙◌}
use Rattle.rev_pages.proofs.Steps.{member_there, behind_value}
use Rattle.rev_pages.proofs.pages.Pages.behind.Goals as goal

pub link-requires : goal.link-requires
link-requires g c = member_there c.self.inside.owners.items c.self.inside.made c.self.inside.table.ends c.self.inside.table.links c.self.invariant.linked c.args.self.now c.self.view_is c.args.class c.requires.class c.args.chunk c.requires.there

pub returns-clause-behind : goal.returns-clause-behind
returns-clause-behind g c = c.chunk_at.ensures ∙ behind_value c.self.inside.owners.items c.self.inside.made c.self.inside.table.ends c.self.inside.table.links c.self.invariant.linked c.args.self.now c.self.view_is c.args.class c.requires.class c.args.chunk c.requires.there _ c.link.ensures.value
