use Rattle.rev_index.proofs.Steps.{link_written, link_others, link_shape}
use Rattle.rev_index.proofs.chains.Chains.set_link.Goals as goal

pub returns-in-At-clause-value : goal.returns-in-At-clause-value
returns-in-At-clause-value g c =
    let s = c.args.self.now in
    link_written s.ends.items s.links _ c.args.place c.in-At.chunk c.args.link c.in-At.is c.set.ensures c.requires

pub returns-in-At-clause-others : goal.returns-in-At-clause-others
returns-in-At-clause-others g c =
    let s = c.args.self.now in
    link_others s.ends.items s.links _ c.args.place c.in-At.chunk c.args.link c.in-At.is c.set.ensures

pub returns-in-At-clause-shape : goal.returns-in-At-clause-shape
returns-in-At-clause-shape g c =
    let s = c.args.self.now in
    link_shape s.ends.items s.links _ c.in-At.chunk c.args.link c.set.ensures
