use Rattle.rev_model.specs.State.{queue_of}
use Rattle.rev_lead.proofs.Walking.{tail_told}
use Rattle.rev_lead.proofs.holding.tail_of.Goals as goal

pub returns-then-is_class : goal.returns-then-is_class
returns-then-is_class g c = tail_told (queue_of c.args.store.now c.args.class c.args.queue) c.tail.result c.tail.ensures
