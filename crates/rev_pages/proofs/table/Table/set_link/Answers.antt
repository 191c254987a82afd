use Rattle.rev_pages.proofs.Tables.{end_write, link_written, link_others, link_shape}
use Rattle.rev_pages.proofs.table.Table.set_link.Goals as goal

pub returns-in-At-clause-value : goal.returns-in-At-clause-value
returns-in-At-clause-value g c =
    let s = c.args.self.now in
    link_written s.ends s.links _ c.args.place c.in-At.chunk c.args.link c.in-At.is c.write.ensures.value c.requires

pub returns-in-At-clause-others : goal.returns-in-At-clause-others
returns-in-At-clause-others g c =
    let s = c.args.self.now in
    link_others s.ends s.links _ c.args.place c.in-At.chunk c.args.link c.in-At.is c.write.ensures.value

pub returns-in-At-clause-shape : goal.returns-in-At-clause-shape
returns-in-At-clause-shape g c =
    let s = c.args.self.now in
    link_shape s.ends s.links _ c.in-At.chunk c.args.link c.write.ensures.value

pub returns-in-End-clause-value : goal.returns-in-End-clause-value
returns-in-End-clause-value g c =
    let s = c.args.self.now in
    (end_write s.ends _ s.links c.args.place c.in-End.list _ c.args.link c.in-End.is c.from.ensures c.set.ensures.value c.requires).0

pub returns-in-End-clause-others : goal.returns-in-End-clause-others
returns-in-End-clause-others g c =
    let s = c.args.self.now in
    (end_write s.ends _ s.links c.args.place c.in-End.list _ c.args.link c.in-End.is c.from.ensures c.set.ensures.value c.requires).1
