use Rattle.std.proofs.Common.{◌∙◌, ap}
use Rattle.rev_top.specs.Tables.{figures_in, put_in}
use Rattle.rev_top.proofs.Named.{figures-insert}
use Rattle.rev_top.proofs.table.Table.put.Goals as goal

pub returns-clause-rows : goal.returns-clause-rows
returns-clause-rows g c = λ k.
    ap (λ es. figures_in es k) c.in_ok-insert.ensures.entries
    ∙ figures-insert k c.in_ok-held.held c.args.figures c.args.self.now.rows.entries
    ∙ ap (λ name. put_in c.args.self.now.rows.entries name c.args.figures k) c.in_ok-held.ensures.items
