use Rattle.rev_commands.proofs.touch.touch_found.Goals as goal

pub returns-clause-leads : goal.returns-clause-leads
returns-clause-leads g c = λ first l. c.set_moment.ensures.leads first (c.hit.ensures.leads first l)
