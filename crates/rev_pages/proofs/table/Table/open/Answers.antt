use Rattle.rev_pages.proofs.Tables.{opens}
use Rattle.rev_pages.proofs.table.Table.open.Goals as goal

pub returns-clause-value : goal.returns-clause-value
returns-clause-value g c =
    opens _ _ _ _ _ _ _ _ c.args.chunk c.args.after _ c.link-next.ensures.value c.requires.apart c.requires.gap
    c.set_link.ensures.value c.set_link.ensures.others c.set_next.ensures.value c.set_previous.ensures.value
