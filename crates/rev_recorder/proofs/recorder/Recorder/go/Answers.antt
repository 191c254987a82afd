use Rattle.rev_recorder.proofs.Left.{left-by-go}
use Rattle.rev_recorder.proofs.recorder.Recorder.go.Goals as goal

pub returns-in-Some-clause-err : goal.returns-in-Some-clause-err
returns-in-Some-clause-err g c =
    let refused = rw c.in-Some.is at c.in-Err.ensures.err in
    let entered = rw c.reserve.ensures.items at c.push_reserved-in-Some.ensures.items in
    let left = left-by-go c.deref_mut.result.now c.go-answer.new.self c.hand.inside.player c.hand.inside.seal c.hand.inside.entries.items c.push_reserved-in-Some.new.self.items c.args.node c.in-Err.refusal.fault c.in-Some.receipt refused entered in
    rw (← c.hand.view_is) left
