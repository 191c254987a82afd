use Rattle.rev_model.specs.State.{queue_of}
use Rattle.rev_lead.proofs.Walking.{before_told}
use Rattle.rev_lead.proofs.holding.before_of.Goals as goal

pub returns-then-is_class : goal.returns-then-is_class
returns-then-is_class g c =
    before_told c.args.entry (queue_of c.args.store.now c.args.class c.args.queue) c.before-then-is_class.result c.before-then-is_class.ensures
