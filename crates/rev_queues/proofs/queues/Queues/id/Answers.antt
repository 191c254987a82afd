use Rattle.rev_queues.proofs.Kept.{id_small}
use Rattle.rev_queues.proofs.queues.Queues.id.Goals as goal

pub id_of-requires : goal.id_of-requires
id_of-requires g c =
    let s = c.self.inside in
    id_small s.links.ends s.links.marks s.links.slots s.tallies c.self.invariant c.args.self.now c.self.view_is _ c.requires
