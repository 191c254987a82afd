use Rattle.std.proofs.Common.{◌+◌, arith, add-one}
use Rattle.rev_tree.specs.Positions.{along}
use Rattle.rev_tree.proofs.Positions.{stands_way, forth_fits, forth_step, Proper-at}
use Rattle.rev_tree.proofs.position.Position.advance.Goals as goal

pub turn-requires-clause-way : goal.turn-requires-clause-way
turn-requires-clause-way g c = rw c.as_slice.ensures.value (stands_way _ _ _ _ _ c.requires.stands)

pub turn-requires-clause-fits : goal.turn-requires-clause-fits
turn-requires-clause-fits g c = rw c.as_slice.ensures.value (forth_fits _ _ _ _ _ c.requires.within c.requires.stands)

pub returns-clause-moved : goal.returns-clause-moved
returns-clause-moved g c =
    let p = forth_step _ c.args.self.now.store c.args.self.now.base c.args.self.now.way.items c.args.self.now.here (c.args.self.now.here + 1) c.turn.new.store c.turn.new.self c.as_slice.result.now (add-one c.args.self.now.here) c.requires.within c.requires.stands c.as_slice.ensures.value c.turn.ensures.state c.turn.ensures.tree in
    record { stands = p.0; same = p.1; proper = Proper-at _ _ _ (omega arith) c.requires.proper }

pub returns-clause-below : goal.returns-clause-below
returns-clause-below g c = rw add-one along
