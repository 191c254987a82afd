use Rattle.std.proofs.Common.{sym, ◌∙◌, ap, subst}
use Rattle.rev_index.specs.Index.{index_of, IsChained}
use Rattle.rev_index.proofs.Kept.{at_cell, item_is}
use Rattle.rev_index.proofs.Fills.{slot_there, fill_chained, fill_value}
use Rattle.rev_index.proofs.index.Index.fill.Goals as goal

pub replace-requires : goal.replace-requires
replace-requires g c =
    let s = c.self.inside in
    slot_there s.chains.ends.items s.chains.links s.items c.self.invariant c.args.self.now c.self.view_is c.args.chunk c.requires.slot

pub returns-clause-before : goal.returns-clause-before
returns-clause-before g c =
    let s = c.self.inside in
    sym (item_is s.chains.ends.items s.chains.links s.items c.self.invariant c.args.self.now c.self.view_is c.args.chunk ∙ at_cell s.items c.args.chunk _ c.replace.ensures.before)

pub invariant_of-self : goal.invariant_of-self
invariant_of-self g c =
    let s = c.self.inside in
    let t = slot_there s.chains.ends.items s.chains.links s.items c.self.invariant c.args.self.now c.self.view_is c.args.chunk c.requires.slot in
    subst (IsChained s.chains.ends.items s.chains.links) (sym c.replace.ensures.after) (fill_chained s.chains.ends.items s.chains.links s.items c.self.invariant c.args.self.now c.self.view_is c.args.chunk c.args.item t c.requires.bound)

pub returns-clause-after : goal.returns-clause-after
returns-clause-after g c =
    let s = c.self.inside in
    let t = slot_there s.chains.ends.items s.chains.links s.items c.self.invariant c.args.self.now c.self.view_is c.args.chunk c.requires.slot in
    ap (index_of s.chains.ends.items s.chains.links) c.replace.ensures.after ∙ fill_value s.chains.ends.items s.chains.links s.items c.self.invariant c.args.self.now c.self.view_is c.args.chunk c.args.item t c.requires.bound
