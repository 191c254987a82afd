use Rattle.rev_model.proofs.Undo.{turned_well}
use Rattle.rev_inverse.specs.Seen.{plain_moves}
use Rattle.rev_inverse.proofs.TurningRecord.{leads_played}
use Rattle.rev_inverse.proofs.store.Store.make.Goals as goal

pub returns-clause-well : goal.returns-clause-well
returns-clause-well g c = rw c.turn_change.ensures.state (turned_well (plain_moves c.args.next) c.args.self.now c.requires.well c.requires.possible)

pub returns-clause-leads : goal.returns-clause-leads
returns-clause-leads g c = λ first leads.
    rw (c.push.ensures.moves, c.turn_change.ensures.state, c.turn_change.ensures.reverse)
    (leads_played c.args.undo.now.moves (plain_moves c.args.next) c.args.self.now first c.requires.well c.requires.possible leads)
