use Rattle.rev_index.proofs.Steps.{next_written, link_shape}
use Rattle.std.proofs.Common.{refl}
use Rattle.rev_index.proofs.chains.Chains.set_next.Goals as goal

pub returns-in-At-clause-value : goal.returns-in-At-clause-value
returns-in-At-clause-value g c =
    let s = c.args.self.now in
    next_written s.ends.items s.links c.args.place c.in-At.chunk c.get_mut.result.now c.args.next c.in-At.is c.get_mut.ensures.value

pub returns-in-At-clause-shape : goal.returns-in-At-clause-shape
returns-in-At-clause-shape g c =
    let s = c.args.self.now in
    link_shape s.ends.items s.links _ c.in-At.chunk _ refl
