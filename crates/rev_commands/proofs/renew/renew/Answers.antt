use Rattle.std.specs.Prelude.{Some}
use Rattle.rev_commands.proofs.Holding.{fresh_after}
use Rattle.rev_commands.proofs.renew.renew.Goals as goal

pub link-requires-clause-fresh : goal.link-requires-clause-fresh
link-requires-clause-fresh g c =
    fresh_after c.args.store.now c.make_way.new.store c.requires.sound.well c.args.class c.requires.class c.args.chunk c.requires.chunk _ c.args.old c.requires.old c.make_way.ensures.state
    (c.make_way.ensures.sound (Some c.args.chunk) c.requires.sound)

pub returns-clause-leads : goal.returns-clause-leads
returns-clause-leads g c = λ first l. c.link.ensures.leads first (c.make_way.ensures.leads first l)
