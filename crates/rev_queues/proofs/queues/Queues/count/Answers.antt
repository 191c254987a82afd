use Rattle.std.proofs.lemmas.Grind.{common_steps}
use Rattle.std.proofs.Common.{arith, ◌≡◌, length}
use Rattle.rev_queues.specs.QueueState.{line}
use Rattle.rev_queues.proofs.queues.Queues.count.Goals as goal

pub returns : goal.returns
returns g c =
    let count : c.tally.result.count ≡ length (line c.args.self.now c.args.class c.args.queue) = grind (arith, common_steps) steps 1200000 in
    count
