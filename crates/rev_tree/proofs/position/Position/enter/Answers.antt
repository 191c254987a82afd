use Rattle.rev_tree.specs.Positions.{fork_off}
use Rattle.rev_tree.specs.declared.junction.Junction.{Junction}
use Rattle.rev_tree.proofs.Positions.{enter_way, enter_within, enter_fits, enter_step, Proper-fork}
use Rattle.rev_tree.proofs.position.Position.enter.Goals as goal

pub turn-requires-clause-way : goal.turn-requires-clause-way
turn-requires-clause-way g c =
    let p : Junction = record { taken = c.args.self.now.here; fork = c.args.fork } in
    enter_way _ c.args.self.now.store c.args.self.now.base c.args.self.now.way.items p c.as_slice.result.now c.push.new.self.items c.requires.within c.requires.from c.requires.stands c.push.ensures.items c.as_slice.ensures.value

pub turn-requires-clause-within : goal.turn-requires-clause-within
turn-requires-clause-within g c =
    let p : Junction = record { taken = c.args.self.now.here; fork = c.args.fork } in
    enter_within c.args.self.now.base c.args.self.now.way.items p c.as_slice.result.now c.push.new.self.items c.requires.node c.push.ensures.items c.as_slice.ensures.value

pub turn-requires-clause-fits : goal.turn-requires-clause-fits
turn-requires-clause-fits g c =
    let p : Junction = record { taken = c.args.self.now.here; fork = c.args.fork } in
    enter_fits _ c.args.self.now.store c.args.self.now.base c.args.self.now.way.items p c.as_slice.result.now c.push.new.self.items c.requires.within c.requires.from c.requires.node c.requires.stands c.push.ensures.items c.as_slice.ensures.value

pub returns-clause-moved : goal.returns-clause-moved
returns-clause-moved g c =
    let p : Junction = record { taken = c.args.self.now.here; fork = c.args.fork } in
    enter_step _ c.args.self.now.store c.args.self.now.base c.args.self.now.way.items p c.turn.new.store c.turn.new.self c.as_slice.result.now c.push.new.self.items c.requires.within c.requires.from c.requires.node c.requires.stands c.push.ensures.items c.as_slice.ensures.value c.turn.ensures.state c.turn.ensures.tree (Proper-fork c.args.self.now.way.items p c.requires.proper)

pub returns-clause-below : goal.returns-clause-below
returns-clause-below g c =
    let p : Junction = record { taken = c.args.self.now.here; fork = c.args.fork } in
    rw c.push.ensures.items (fork_off p)
