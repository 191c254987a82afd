use Rattle.rev_inverse.proofs.Shifting.{carried_index, carried_bind, unbound_from, unbound_to}
use Rattle.rev_inverse.proofs.shift.carry.Goals as goal

pub fill-item-requires-clause-bound : goal.fill-item-requires-clause-bound
fill-item-requires-clause-bound g c = λ k f. absurd (unbound_from _ _ c.args.from c.unbind.ensures c.requires.bound.0 c.requires.bound.1 c.requires.indexed k f)

pub replace-requires-clause-bound : goal.replace-requires-clause-bound
replace-requires-clause-bound g c = λ k f. absurd (unbound_to _ _ _ c.args.from c.args.to c.unbind.ensures c.fill-item.ensures.after c.requires.bound.0 c.requires.bound.1 c.requires.empty c.requires.indexed k f)

pub bind-requires : goal.bind-requires
bind-requires g c = carried_bind _ _ _ _ c.args.from c.args.to c.fill-item.result c.unbind.ensures c.fill-item.ensures.before c.fill-item.ensures.after c.replace.ensures c.requires.bound.0 c.requires.bound.1

pub returns : goal.returns
returns g c = carried_index _ _ _ _ _ c.args.from c.args.to c.fill-item.result c.unbind.ensures c.fill-item.ensures.before c.fill-item.ensures.after c.replace.ensures c.bind.ensures
