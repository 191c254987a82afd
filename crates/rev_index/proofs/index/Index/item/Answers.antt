use Rattle.std.proofs.Common.{sym, ◌∙◌}
use Rattle.rev_index.proofs.Kept.{item_is}
use Rattle.rev_index.proofs.index.Index.item.Goals as goal

pub returns : goal.returns
returns g c =
    let s = c.self.inside in
    c.item.ensures ∙ sym (item_is s.chains.ends.items s.chains.links s.items c.self.invariant c.args.self.now c.self.view_is c.args.chunk)
