use Rattle.std.proofs.Common.{refl}
use Rattle.rev_pages.proofs.Tables.{next_written, link_shape, next_end}
use Rattle.rev_pages.proofs.table.Table.set_next.Goals as goal

pub returns-in-At-clause-value : goal.returns-in-At-clause-value
returns-in-At-clause-value g c =
    let s = c.args.self.now in
    next_written s.ends s.links c.args.place c.in-At.chunk c.edit-in-At.result.now c.args.next c.in-At.is c.edit-in-At.ensures.value

pub returns-in-At-clause-shape : goal.returns-in-At-clause-shape
returns-in-At-clause-shape g c =
    let s = c.args.self.now in
    link_shape s.ends s.links _ c.in-At.chunk _ refl

pub returns-in-End-clause-value : goal.returns-in-End-clause-value
returns-in-End-clause-value g c =
    let s = c.args.self.now in
    next_end s.ends s.links c.args.place c.in-End.list _ c.edit.result.now c.args.next c.in-End.is c.from.ensures c.edit.ensures.value
