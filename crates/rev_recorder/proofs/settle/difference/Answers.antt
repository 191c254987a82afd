use Rattle.rev_recorder.proofs.Compare.{held-from, lost}
use Rattle.rev_recorder.proofs.Counts.{one-each, doubled}
use Rattle.rev_recorder.proofs.settle.difference.Goals as goal

pub returns-in-Some-lost_row : goal.returns-in-Some-lost_row
returns-in-Some-lost_row c =
    let found = c.in-Some-lost_row.ensures in
    λ settles. lost c.args.hands.now found.0 found.1 found.3 (settles.held found.0 found.1 found.2)

pub returns-in-Some-second_hand : goal.returns-in-Some-second_hand
returns-in-Some-second_hand c = doubled c.args.hands.now c.args.log.now c.args.session.now c.in_default.ensures c.in_default-lost_row.ensures c.in-Some-second_hand.ensures

pub returns : goal.returns
returns c = record {
  agree = c.in_default.ensures;
  held = held-from c.args.hands.now c.args.log.now c.args.session.now c.in_default.ensures c.in_default-lost_row.ensures;
  count = one-each c.args.hands.now c.args.log.now c.args.session.now c.in_default.ensures c.in_default-lost_row.ensures c.in_default-second_hand.ensures;
}
