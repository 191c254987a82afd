use Rattle.std.proofs.Common.{rules}
use Rattle.rev_edits.proofs.alter.warm_up.Goals as goal

pub raise-requires-clause-class : goal.raise-requires-clause-class
raise-requires-clause-class g c =
    let h = c.requires.stands.1 in
    rw (c.retouch.ensures.state c.requires.stands.0 (rw c.to_head.ensures.state h.item), c.to_head.ensures.state) c.requires.class

pub returns-clause-leads : goal.returns-clause-leads
returns-clause-leads g c = λ first l. c.raise.ensures.leads first (c.retouch.ensures.leads first (c.to_head.ensures.leads first l))

pub returns-clause-state : goal.returns-clause-state
returns-clause-state g c = search rules steps 1500000
