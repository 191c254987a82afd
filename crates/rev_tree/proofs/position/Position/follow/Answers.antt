use Rattle.std.proofs.Common.{◌<◌, ◌≤◌, length, arith, add-one}
use Rattle.rev_tree.specs.declared.junction.Junction.{Junction}
use Rattle.rev_tree.proofs.Paths.{at_end_of_way, at_level, at_fork}
use Rattle.rev_tree.proofs.position.Position.follow.Goals as goal

abbrev none : Junction
none = record { taken = 0; fork = 0 }

pub advance-requires-clause-within : goal.advance-requires-clause-within
advance-requires-clause-within g c =
    let l : length c.args.target.now ≤ length c.args.self.now.way.items = omega arith in
    (at_end_of_way _ _ _ _ _ c.requires.path c.requires.on l (c.requires.apart l)).0

pub returns-then-level-target-clause-on : goal.returns-then-level-target-clause-on
returns-then-level-target-clause-on g c =
    let l : length c.args.target.now ≤ length c.args.self.now.way.items = omega arith in
    rw (c.advance.ensures.way, c.advance.ensures.here, add-one) (at_end_of_way _ _ _ _ _ c.requires.path c.requires.on l (c.requires.apart l)).1

pub advance-requires-then-self-junction-clause-within : goal.advance-requires-then-self-junction-clause-within
advance-requires-then-self-junction-clause-within g c =
    let l : c.len-level.result < length c.args.target.now = omega arith in
    (at_level _ _ _ _ _ c.len-level.result none c.requires.path c.requires.on c.len-level.ensures.value l c.if-self-junction.true).0

pub returns-then-self-junction-clause-on : goal.returns-then-self-junction-clause-on
returns-then-self-junction-clause-on g c =
    let l : c.len-level.result < length c.args.target.now = omega arith in
    rw (c.advance-then-self-junction.ensures.way, c.advance-then-self-junction.ensures.here, add-one) (at_level _ _ _ _ _ c.len-level.result none c.requires.path c.requires.on c.len-level.ensures.value l c.if-self-junction.true).1

pub enter-requires-clause-within : goal.enter-requires-clause-within
enter-requires-clause-within g c =
    let l : c.len-level.result < length c.args.target.now = omega arith in
    (at_fork _ _ _ _ _ c.len-level.result none c.requires.path c.requires.goal c.requires.on c.len-level.ensures.value l c.if-self-junction.false).0

pub enter-requires-clause-from : goal.enter-requires-clause-from
enter-requires-clause-from g c =
    let l : c.len-level.result < length c.args.target.now = omega arith in
    (at_fork _ _ _ _ _ c.len-level.result none c.requires.path c.requires.goal c.requires.on c.len-level.ensures.value l c.if-self-junction.false).1

pub enter-requires-clause-node : goal.enter-requires-clause-node
enter-requires-clause-node g c =
    let l : c.len-level.result < length c.args.target.now = omega arith in
    (at_fork _ _ _ _ _ c.len-level.result none c.requires.path c.requires.goal c.requires.on c.len-level.ensures.value l c.if-self-junction.false).2

pub returns-clause-on : goal.returns-clause-on
returns-clause-on g c =
    let l : c.len-level.result < length c.args.target.now = omega arith in
    rw (c.enter.ensures.way, c.enter.ensures.here) (at_fork _ _ _ _ _ c.len-level.result none c.requires.path c.requires.goal c.requires.on c.len-level.ensures.value l c.if-self-junction.false).3
