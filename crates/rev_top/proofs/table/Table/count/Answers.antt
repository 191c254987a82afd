use Rattle.std.proofs.Common.{◌∙◌, sym}
use Rattle.rev_top.proofs.table.Table.count.Goals as goal

pub returns-then-has_room-clause-rows : goal.returns-then-has_room-clause-rows
returns-then-has_room-clause-rows g c = rw (sym c.has_room.ensures ∙ c.if-has_room.true) c.count_apart.ensures.rows

pub returns-then-has_room-clause-others : goal.returns-then-has_room-clause-others
returns-then-has_room-clause-others g c = rw (sym c.has_room.ensures ∙ c.if-has_room.true) c.count_apart.ensures.others

pub returns-else-has_room-clause-others : goal.returns-else-has_room-clause-others
returns-else-has_room-clause-others g c = rw (sym c.has_room.ensures ∙ c.if-has_room.false) c.with-self.ensures.counted
