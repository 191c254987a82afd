use Rattle.std.proofs.Common.{ap, sym, ◌∙◌}
use Rattle.rev_inverse.specs.Record.{flat}
use Rattle.rev_tree.proofs.Runs.{in_records, undo_seen}
use Rattle.rev_tree.proofs.run.Run.record.Goals as goal

pub record-requires : goal.record-requires
record-requires g c = in_records c.self.inside.heads.items c.self.inside.records _ c.args.at c.self.view_is c.self.invariant c.requires

pub returns : goal.returns
returns g c = ap flat c.«record».ensures ∙ sym (undo_seen c.self.inside.heads.items c.self.inside.records c.args.self.now c.args.at c.self.view_is c.self.invariant c.requires)
