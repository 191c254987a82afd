use Rattle.std.proofs.Common.{get_or, ap, sym, ◌∙◌}
use Rattle.rev_inverse.specs.Record.{no_record}
use Rattle.rev_tree.specs.Steps.{turned}
use Rattle.rev_tree.proofs.Turns.{fits_well, fits_flat, turned_state}
use Rattle.rev_tree.proofs.Runs.{in_records, undo_seen, turned_run}
use Rattle.rev_tree.proofs.run.Run.turn.Goals as goal

pub turn-requires-clause-within : goal.turn-requires-clause-within
turn-requires-clause-within g c = in_records c.self.inside.heads.items c.self.inside.records _ c.args.at c.self.view_is c.self.invariant c.requires.within

pub turn-requires-clause-well : goal.turn-requires-clause-well
turn-requires-clause-well g c = fits_well _ _ c.requires.fits

pub turn-requires-clause-fits : goal.turn-requires-clause-fits
turn-requires-clause-fits g c = fits_flat (get_or c.self.inside.records c.args.at no_record) _ _ (undo_seen c.self.inside.heads.items c.self.inside.records _ c.args.at c.self.view_is c.self.invariant c.requires.within) c.requires.fits

pub returns-clause-state : goal.returns-clause-state
returns-clause-state g c =
    turned_state (get_or c.self.inside.records c.args.at no_record) _ _ c.turn.ensures.state
    ∙ ap (λ r. (turned r c.args.store.now).0) (sym (undo_seen c.self.inside.heads.items c.self.inside.records c.args.self.now c.args.at c.self.view_is c.self.invariant c.requires.within))

pub returns-clause-run : goal.returns-clause-run
returns-clause-run g c =
    turned_run c.self.inside.heads.items c.self.inside.records c.turn.new.self c.args.self.now c.args.at c.args.store.now c.self.view_is c.self.invariant c.requires.within c.turn.ensures.others c.turn.ensures.moves c.turn.ensures.notes
